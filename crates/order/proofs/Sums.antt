-- Sums over the numbers below n. Assumes nothing.
use Rattle.std.proofs.Common.{◌≡◌, ℕ, zero, suc, ◌+◌, ◌<◌, ◌≤◌, cond, eqb, List, [], ◌∷◌, length, take, sym, refl, ap, ⊎_elim, arith}
use Rattle.std.specs.List.{AllByRecursion}
use Rattle.std.proofs.lemmas.Bool.{cond_both, cond-true, cond-false, eqb-true, eqb-false, eq-eqb, ne_eqb, cases_eq}
use Rattle.giving.specs.Lists.{times}
use Rattle.order.specs.Steps.{sum_below, passes_over}

pub passes_times : (a r : ℕ) (L : List ℕ) → times a (take r L) ≤ 1 → passes_over a r L ≡ times a (take r L)
passes_times a r L h =
    cond_both (eqb (times a (take r L)) 0) 0 1 (λ v. v ≡ times a (take r L)) (λ e. sym (eqb-true (times a (take r L)) 0 e)) (λ e. omega (arith, eqb-false (times a (take r L)) 0 e))

pub sum_below_zero : (n : ℕ) → sum_below n (λ a. 0) ≡ 0
sum_below_zero zero = refl
sum_below_zero (suc n) = omega (arith, sum_below_zero n)

pub sum_below_add : (n : ℕ) (f g : ℕ → ℕ) → sum_below n (λ a. f a + g a) ≡ sum_below n f + sum_below n g
sum_below_add zero f g = refl
sum_below_add (suc n) f g = omega (arith, sum_below_add n f g)

sum_below_none : (n x : ℕ) → n ≤ x → sum_below n (λ a. cond (eqb a x) 1 0) ≡ 0
sum_below_none zero x h = refl
sum_below_none (suc n) x h = omega (arith, cond-false {A = ℕ} (eqb n x) 1 0 (ne_eqb n x (omega arith)), sum_below_none n x (omega arith))

sum_below_hit : (n x : ℕ) → x < n → sum_below n (λ a. cond (eqb a x) 1 0) ≡ 1
sum_below_hit zero x h = omega arith
sum_below_hit (suc n) x h =
    ⊎_elim
    (λ e. omega (arith, cond-true {A = ℕ} (eqb n x) 1 0 (eq-eqb n x e), sum_below_none n x (omega arith)))
    (λ e. omega (arith, cond-false {A = ℕ} (eqb n x) 1 0 (ne_eqb n x e), sum_below_hit n x (omega arith)))
    (cases_eq n x)

-- each place of a list is counted at one number
pub sum_below_times : (n : ℕ) (xs : List ℕ) → AllByRecursion (λ x. x < n) xs → sum_below n (λ a. times a xs) ≡ length xs
sum_below_times n [] h = sum_below_zero n
sum_below_times n (x ∷ xs) h =
    omega (arith, sum_below_add n (λ a. cond (eqb a x) 1 0) (λ a. times a xs), sum_below_hit n x h.0, sum_below_times n xs h.1)

pub sum_below_ones : (n : ℕ) (f : ℕ → ℕ) → ((a : ℕ) → a < n → f a ≡ 1) → sum_below n f ≡ n
sum_below_ones zero f h = refl
sum_below_ones (suc n) f h = omega (arith, h n (omega arith), sum_below_ones n f (λ a l. h a (omega arith)))

pub sum_below_le : (n : ℕ) (f : ℕ → ℕ) → ((a : ℕ) → f a ≤ 1) → sum_below n f ≤ n
sum_below_le zero f h = omega arith
sum_below_le (suc n) f h = omega (arith, h n, sum_below_le n f h)

-- n numbers of at most 1 that add up to n are all 1
pub sum_below_full : (n : ℕ) (f : ℕ → ℕ) → ((a : ℕ) → f a ≤ 1) → n ≤ sum_below n f → (a : ℕ) → a < n → f a ≡ 1
sum_below_full zero f h e a l = omega arith
sum_below_full (suc n) f h e a l =
    ⊎_elim
    (λ q. omega (arith, ap f q, h n, sum_below_le n f h))
    (λ q. sum_below_full n f h (omega (arith, h n)) a (omega arith))
    (cases_eq a n)
