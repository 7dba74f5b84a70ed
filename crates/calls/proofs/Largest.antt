-- The largest of a list and the first place where it stands. Assumes nothing.
use Rattle.std.proofs.Common.{◌≡◌, ℕ, zero, suc, ◌<◌, ◌≤◌, eqb, List, [], ◌∷◌, ◌++◌, length, get_or, sym, refl, ⊎_elim, ◌∙◌, arith}
use Rattle.std.proofs.Math.ListN.{get_or-append}
use Rattle.std.proofs.lemmas.List.Recursion.{max_bounds}
use Rattle.std.proofs.lemmas.Bool.{cond_both, eqb-false, cases_order, cases_lt}
use Rattle.giving.specs.Lists.{place}
use Rattle.giving.proofs.Counts.{times_at}
use Rattle.giving.proofs.Places.{place_some, place_there}
use Rattle.calls.specs.Rules.{largest_of}
use Rattle.calls.specs.Meanings.{Largest}

bounded : (xs : List ℕ) (j : ℕ) → j < length xs → get_or xs j 0 ≤ largest_of xs
bounded xs j l = max_bounds largest_of (λ (x : ℕ). x) refl (λ _ _. refl) xs j 0 l

attained : (xs : List ℕ) → 0 < length xs → (j : ℕ) × (j < length xs) × (get_or xs j 0 ≡ largest_of xs)
attained [] l = absurd (omega arith)
attained (x ∷ []) l = (0, omega arith, omega arith)
attained (x ∷ (y ∷ xs)) l =
    let h = attained (y ∷ xs) (omega arith) in
    ⊎_elim (λ q. (suc h.0, omega arith, omega (arith, h.2))) (λ q. (0, omega arith, omega arith)) (cases_lt x (largest_of (y ∷ xs)))

pub largest_stands : (xs : List ℕ) → 0 < length xs → place (largest_of xs) xs < length xs
largest_stands xs l = let a = attained xs l in place_some (largest_of xs) xs (times_at (largest_of xs) a.0 xs a.1 a.2)

before_place : (m : ℕ) (xs : List ℕ) (j : ℕ) → j < place m xs → get_or xs j 0 ≡ m → ⊥
before_place m [] j l e = omega arith
before_place m (x ∷ xs) zero l e = cond_both (eqb m x) 0 (suc (place m xs)) (λ v. 0 < v → ⊥) (λ q u. omega arith) (λ q u. eqb-false m x q (sym e)) l
before_place m (x ∷ xs) (suc j) l e = cond_both (eqb m x) 0 (suc (place m xs)) (λ v. suc j < v → ⊥) (λ q u. omega arith) (λ q u. before_place m xs j (omega arith) e) l

none_first : (xs : List ℕ) → length xs ≡ 0 → (largest_of xs ≡ 0) × (place (largest_of xs) xs ≡ 0)
none_first [] e = (refl, refl)
none_first (x ∷ xs) e = absurd (omega arith)

-- of a list with others behind it
pub largest_is : (xs ys : List ℕ) (n : ℕ) → length xs ≡ n → Largest n (xs ++ ys) (largest_of xs) (place (largest_of xs) xs)
largest_is xs ys n e =
    let m : ℕ = largest_of xs in
    let i : ℕ = place m xs in
    let at : (j : ℕ) → j < n → get_or (xs ++ ys) j 0 ≡ get_or xs j 0 = λ j l. get_or-append xs ys 0 j (omega arith) in
    let here : 0 < n → i < n = λ l. omega (arith, largest_stands xs (omega arith)) in
    record {
      bound = λ j l. omega (arith, at j l, bounded xs j (omega arith));
      there = λ l. let h = here l in (h, at i h ∙ place_there m xs (omega arith));
      first = λ j u. ⊎_elim
          (λ l. let h = here l in omega (arith, at j (omega arith), bounded xs j (omega arith), before_place m xs j u))
          (λ l. absurd (omega (arith, none_first xs (omega arith)))) (cases_lt 0 n);
      none = λ z. none_first xs (omega arith);
    }

-- no other number and place are so
pub same_largest : (n : ℕ) (xs : List ℕ) (m i m' i' : ℕ) → Largest n xs m i → Largest n xs m' i' → (m ≡ m') × (i ≡ i')
same_largest n xs m i m' i' h h' =
    ⊎_elim
    (λ l. let a = h.there l in let b = h'.there l in
    let e : m ≡ m' = omega (arith, h.bound i' b.0, h'.bound i a.0) in
    (e, ⊎_elim (λ q. q) (⊎_elim (λ q. absurd (omega (arith, h'.first i q))) (λ q. absurd (omega (arith, h.first i' q)))) (cases_order i i')))
    (λ l. let a = h.none (omega arith) in let b = h'.none (omega arith) in (omega (arith, a, b), omega (arith, a, b)))
    (cases_lt 0 n)
