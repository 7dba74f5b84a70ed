-- What stays of the order of a list when a code leaves it or comes in. Assumes nothing.
use Rattle.std.specs.Prelude.{◌≡◌, ℕ, ◌+◌, ◌-◌, Bool, cond, List, ◌==◌, ◌≢◌, nat_lt}
use Rattle.std.specs.List.{insert}
use Rattle.giving.specs.Lists.{times, place, without}

-- whether a stands before b is r, also after another code c was taken out, and after c was put in at any seat
pub record OrderAfterChange (a b : ℕ) (L : List ℕ) (r : Bool) : Type 0 where
  pub taken : (c : ℕ) → (a ≢ c) → (b ≢ c) → nat_lt (place a (without c L)) (place b (without c L)) ≡ r
  pub put_in : (c seat : ℕ) → (a ≢ c) → (b ≢ c) → nat_lt (place a (insert L seat c)) (place b (insert L seat c)) ≡ r

-- a stands in L r times: one less after it was taken out, one more after it was put in, and as often after the like of another
pub record TimesAfterChange (a : ℕ) (L : List ℕ) (r : ℕ) : Type 0 where
  pub taken : (c : ℕ) → times a (without c L) ≡ r - cond (a == c) 1 0
  pub put_in : (c seat : ℕ) → times a (insert L seat c) ≡ cond (a == c) 1 0 + r
