-- Checks in a row: each refuses, or leaves the answer to the next.
use Rattle.std.proofs.Common.{◌≡◌, Bool, true, false, cond, Ok, Err, Result, refl}

module _ {A E : Type 0} where
  -- a check that refuses where its test holds: what was accepted passed it, and what passes it is left to the next
  pub passed : (b : Bool) (f : E) (r : Result A E) (y : A) → cond b (Err f) r ≡ Ok y → (b ≡ false) × (r ≡ Ok y)
  passed true f r y e = cc
  passed false f r y e = (refl, e)

  pub pass : (b : Bool) (f : E) (r : Result A E) (y : A) → b ≡ false → r ≡ Ok y → cond b (Err f) r ≡ Ok y
  pass true f r y p e = cc
  pass false f r y p e = e
