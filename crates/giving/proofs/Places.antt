-- Where a code stands in a list, and the list without it. Assumes nothing.
use Rattle.std.proofs.Common.{◌≡◌, ℕ, zero, suc, ◌-◌, ◌<◌, ◌≤◌, Bool, ltb, List, [], ◌∷◌, ◌++◌, reverse, length, get_or, sym, refl, ap, ◌∙◌, arith}
use Rattle.std.specs.List.{insert, remove}
use Rattle.std.proofs.lemmas.List.{reverse-append, length-reverse, get_or-reverse, append-nil}
use Rattle.std.proofs.lemmas.Bool.Decides.{nat_tests}
use Rattle.giving.specs.Lists.{times, place, stands, without, Once}
use Rattle.giving.specs.Laws.{OrderAfterChange}
use Rattle.giving.proofs.Counts.{times_reverse, times_at, once_fewer}

pub place_le : (a : ℕ) (L : List ℕ) → place a L ≤ length L
place_le a [] = omega arith
place_le a (x ∷ xs) = grind (arith, nat_tests, place_le a xs)

-- ---- a code has a place exactly where it stands some times
pub place_some : (a : ℕ) (L : List ℕ) → 1 ≤ times a L → place a L < length L
place_some a [] h = absurd (omega arith)
place_some a (x ∷ xs) h = grind (arith, nat_tests, place_some a xs)

pub place_there : (a : ℕ) (L : List ℕ) → place a L < length L → get_or L (place a L) 0 ≡ a
place_there a [] h = absurd (omega arith)
place_there a (x ∷ xs) h = grind (arith, nat_tests, place_there a xs)

times_some : (a : ℕ) (L : List ℕ) → place a L < length L → 1 ≤ times a L
times_some a L h = times_at a (place a L) L h (place_there a L h)

pub times_absent : (a : ℕ) (L : List ℕ) → length L ≤ place a L → times a L ≡ 0
times_absent a L h = grind (arith, place_some a L)

pub place_absent : (a : ℕ) (L : List ℕ) → times a L ≡ 0 → length L ≤ place a L
place_absent a L z = grind (arith, times_some a L)

pub stands_some : (a : ℕ) (L : List ℕ) → ltb 0 (times a L) ≡ stands a L
stands_some a L = grind (arith, nat_tests, times_some a L, times_absent a L)

-- two lists that have a code as often tell alike whether it stands in them
pub stands_same : (a : ℕ) (L M : List ℕ) → times a L ≡ times a M → stands a L ≡ stands a M
stands_same a L M e = sym (stands_some a L) ∙ ap (ltb 0) e ∙ stands_some a M

-- ---- no code twice: the place at which a code stands is its place
pub place_only : (a k : ℕ) (L : List ℕ) → Once L → k < length L → get_or L k 0 ≡ a → place a L ≡ k
place_only a k [] o h e = absurd (omega arith)
place_only a zero (x ∷ xs) o h e = grind (arith, nat_tests)
place_only a (suc k) (x ∷ xs) o h e = grind (arith, nat_tests, o a, times_at a k xs (omega arith) e, place_only a k xs (λ b. omega (arith, o b)) (omega arith) e)

-- a new code that is put in at a seat has that place
pub place_inserted : (a s : ℕ) (L : List ℕ) → times a L ≡ 0 → s ≤ length L → place a (insert L s a) ≡ s
place_inserted a zero L z h = grind (arith, nat_tests)
place_inserted a (suc s) [] z h = absurd (omega arith)
place_inserted a (suc s) (x ∷ xs) z h = grind (arith, nat_tests, place_inserted a s xs)

-- ---- the list without a code
pub without_absent : (a : ℕ) (L : List ℕ) → times a L ≡ 0 → without a L ≡ L
without_absent a [] z = refl
without_absent a (x ∷ xs) z = grind (arith, nat_tests, without_absent a xs)

pub removed_without : (a : ℕ) (L : List ℕ) → remove L (place a L) ≡ without a L
removed_without a [] = refl
removed_without a (x ∷ xs) = grind (arith, nat_tests, removed_without a xs)

-- a code that is not in the front is taken from the back
without_back : (a : ℕ) (xs ys : List ℕ) → times a xs ≡ 0 → without a (xs ++ ys) ≡ xs ++ without a ys
without_back a [] ys z = refl
without_back a (x ∷ xs) ys z = grind (arith, nat_tests, without_back a xs ys)

without_front : (a : ℕ) (xs ys : List ℕ) → 1 ≤ times a xs → without a (xs ++ ys) ≡ without a xs ++ ys
without_front a [] ys h = absurd (omega arith)
without_front a (x ∷ xs) ys h = grind (arith, nat_tests, without_front a xs ys)

-- ---- the list read from its end
reverse_cons : (x : ℕ) (xs : List ℕ) → reverse (x ∷ xs) ≡ reverse xs ++ x ∷ []
reverse_cons x xs = reverse-append (x ∷ []) xs

pub without_reverse : (a : ℕ) (L : List ℕ) → Once L → without a (reverse L) ≡ reverse (without a L)
without_reverse a [] o = refl
without_reverse a (x ∷ xs) o =
    let r = times_reverse a xs in
    let n = without_absent a xs in
    let h = without_reverse a xs (λ b. omega (arith, o b)) in
    rw (reverse_cons x xs) (grind (arith, nat_tests, o a, reverse_cons x (without a xs), append-nil (reverse xs), without_back a (reverse xs) (x ∷ []), without_front a (reverse xs) (x ∷ [])))

pub place_reverse : (a : ℕ) (L : List ℕ) → Once L → place a L < length L → place a (reverse L) ≡ length L - 1 - place a L
place_reverse a L o h =
    let n = length-reverse L in
    let k : ℕ = length L - 1 - place a L in
    let back : length L - 1 - k ≡ place a L = omega arith in
    place_only a k (reverse L) (once_fewer L (reverse L) (λ b. omega (arith, times_reverse b L)) o) (omega arith) (get_or-reverse L k 0 (omega arith) ∙ ap (λ m. get_or L m 0) back ∙ place_there a L h)

-- ---- which of two codes stands before the other, with a third or without it
module _ (a b c : ℕ) (ac : a ≡ c → ⊥) (bc : b ≡ c → ⊥) where
  before_without : (L : List ℕ) → ltb (place a (without c L)) (place b (without c L)) ≡ ltb (place a L) (place b L)
  before_without [] = refl
  before_without (x ∷ xs) = grind (arith, nat_tests, before_without xs)

  before_inserted : (s : ℕ) (L : List ℕ) → ltb (place a (insert L s c)) (place b (insert L s c)) ≡ ltb (place a L) (place b L)
  before_inserted zero L = grind (arith, nat_tests)
  before_inserted (suc s) [] = grind (arith, nat_tests)
  before_inserted (suc s) (x ∷ xs) = grind (arith, nat_tests, before_inserted s xs)

-- which of two codes stands first stays so when a third comes in or leaves
pub order_after_change : (a b : ℕ) (L : List ℕ) (r : Bool) → r ≡ ltb (place a L) (place b L) → OrderAfterChange a b L r
order_after_change a b L r e = record { taken = λ c p q. before_without a b c p q L ∙ sym e; put_in = λ c s p q. before_inserted a b c p q s L ∙ sym e }
