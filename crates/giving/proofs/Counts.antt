-- How often a code stands in a list. Assumes nothing.
use Rattle.std.proofs.Common.{◌≡◌, ℕ, zero, suc, ◌+◌, ◌-◌, ◌<◌, ◌≤◌, cond, eqb, List, [], ◌∷◌, ◌++◌, reverse, length, get_or, take, drop, refl, ap, arith, take-append-drop}
use Rattle.std.specs.List.{insert, remove, AllByRecursion}
use Rattle.std.proofs.lemmas.List.{reverse-append}
use Rattle.std.proofs.lemmas.Bool.Decides.{nat_tests}
use Rattle.std.proofs.lemmas.Bool.{cond_both, cond-true, cond-false, eq-eqb, ne_eqb}
use Rattle.giving.specs.Lists.{times, without, Once, Below}

pub times_append : (a : ℕ) (xs ys : List ℕ) → times a (xs ++ ys) ≡ times a xs + times a ys
times_append a [] ys = omega arith
times_append a (x ∷ xs) ys = omega (arith, times_append a xs ys)

-- one more code in front
pub times_here : (a x : ℕ) (xs : List ℕ) → a ≡ x → times a (x ∷ xs) ≡ 1 + times a xs
times_here a x xs e = omega (arith, cond-true {A = ℕ} (eqb a x) 1 0 (eq-eqb a x e))

pub times_there : (a x : ℕ) (xs : List ℕ) → (a ≡ x → ⊥) → times a (x ∷ xs) ≡ times a xs
times_there a x xs ne = omega (arith, cond-false {A = ℕ} (eqb a x) 1 0 (ne_eqb a x ne))

-- one more code at the end
pub times_push : (y x : ℕ) (p : List ℕ) → times y (p ++ x ∷ []) ≡ times y p + cond (eqb y x) 1 0
times_push y x p = omega (arith, times_append y p (x ∷ []))

pub times_self : (x : ℕ) (p : List ℕ) → times x (p ++ x ∷ []) ≡ times x p + 1
times_self x p = omega (arith, times_append x p (x ∷ []), times_here x x [] refl)

pub times_other : (y x : ℕ) (p : List ℕ) → (y ≡ x → ⊥) → times y (p ++ x ∷ []) ≡ times y p
times_other y x p ne = omega (arith, times_append y p (x ∷ []), times_there y x [] ne)

pub times_insert : (a x i : ℕ) (L : List ℕ) → times a (insert L i x) ≡ cond (eqb a x) 1 0 + times a L
times_insert a x i L = omega (arith, times_append a (take i L) (x ∷ drop i L), times_append a (take i L) (drop i L), ap (times a) (take-append-drop i L))

pub times_take : (a i : ℕ) (L : List ℕ) → times a (take i L) ≤ times a L
times_take a i L = omega (arith, times_append a (take i L) (drop i L), ap (times a) (take-append-drop i L))

-- a code that is taken out stands there one time less, and any other as often
pub times_without : (a c : ℕ) (L : List ℕ) → times a (without c L) ≡ times a L - cond (eqb a c) 1 0
times_without a c [] = grind (arith, nat_tests)
times_without a c (x ∷ xs) = grind (arith, nat_tests, times_without a c xs)

pub times_removed : (a i : ℕ) (L : List ℕ) → times a (remove L i) ≤ times a L
times_removed a zero [] = omega arith
times_removed a zero (x ∷ xs) = omega arith
times_removed a (suc i) [] = omega arith
times_removed a (suc i) (x ∷ xs) = omega (arith, times_removed a i xs)

pub all_without : (P : ℕ → Type 0) (a : ℕ) (L : List ℕ) → AllByRecursion P L → AllByRecursion P (without a L)
all_without P a [] h = tt
all_without P a (x ∷ xs) h = cond_both (eqb a x) xs (x ∷ without a xs) (AllByRecursion P) (λ e. h.1) (λ e. (h.0, all_without P a xs h.1))

pub times_reverse : (a : ℕ) (L : List ℕ) → times a (reverse L) ≡ times a L
times_reverse a [] = refl
times_reverse a (x ∷ xs) = omega (arith, ap (times a) (reverse-append (x ∷ []) xs), times_append a (reverse xs) (x ∷ []), times_reverse a xs)

-- what stands at some place stands there some times
pub times_at : (a k : ℕ) (L : List ℕ) → k < length L → get_or L k 0 ≡ a → 1 ≤ times a L
times_at a k [] h e = omega arith
times_at a zero (x ∷ xs) h e = grind (arith, nat_tests)
times_at a (suc k) (x ∷ xs) h e = grind (arith, nat_tests, times_at a k xs (omega arith) e)

-- what stands at no place stands there no times
pub times_none : (a : ℕ) (L : List ℕ) → ((k : ℕ) → k < length L → get_or L k 0 ≡ a → ⊥) → times a L ≡ 0
times_none a [] f = refl
times_none a (x ∷ xs) f = grind (arith, nat_tests, f 0, times_none a xs (λ k h. f (suc k) (omega arith)))

-- a code that was not in the list comes in once
pub once_more : (a x : ℕ) (xs : List ℕ) → times x xs ≡ 0 → times a xs ≤ 1 → times a (x ∷ xs) ≤ 1
once_more a x xs z h = grind (arith, nat_tests)

pub once_push : (x : ℕ) (L : List ℕ) → times x L ≡ 0 → Once L → Once (L ++ x ∷ [])
once_push x L z o a = omega (arith, times_append a L (x ∷ []), once_more a x L z (o a))

-- ---- a list that has no code more often than another has its laws
pub once_fewer : (L M : List ℕ) → ((a : ℕ) → times a M ≤ times a L) → Once L → Once M
once_fewer L M f o a = omega (arith, f a, o a)

pub below_fewer : (n : ℕ) (L M : List ℕ) → ((a : ℕ) → times a M ≤ times a L) → Below n L → Below n M
below_fewer n L M f b a l = omega (arith, f a, b a l)

pub below_push : (n x : ℕ) (L : List ℕ) → x < n → Below n L → Below n (L ++ x ∷ [])
below_push n x L h b a l = grind (arith, nat_tests, b a l, times_append a L (x ∷ []))

-- what stands at a place is below n
pub below_at : (n k : ℕ) (L : List ℕ) → Below n L → k < length L → get_or L k 0 < n
below_at n k L b h = grind (arith, b (get_or L k 0), times_at (get_or L k 0) k L h refl)
