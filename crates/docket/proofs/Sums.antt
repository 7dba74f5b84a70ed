-- What a certificate sums up of the steps. Assumes nothing.
use Rattle.std.specs.Option.{unwrap_or}
use Rattle.std.specs.List.{fold, sum, sum_by, position, position_or_len}
use Rattle.std.proofs.lemmas.List.Sums.{sum-map}
use Rattle.std.proofs.lemmas.List.Recursion.{is_position_or_len}
use Rattle.std.proofs.Common.{◌≡◌, ℕ, suc, ◌+◌, ◌<◌, max, cond, eqb, ltb, List, [], ◌∷◌, length, Some, None, Option, sym, refl, ap, ◌∙◌, arith}
use Rattle.std.proofs.lemmas.List.{length-map}
use Rattle.std.proofs.lemmas.Bool.{cond-true, lt-ltb}
use Rattle.std.proofs.lemmas.Bool.Decides.{nat_tests}
use Rattle.giving.specs.Lists.{place}
use Rattle.calls.specs.Rules.{largest_of, summed_up}
use Rattle.calls.proofs.Largest.{largest_stands}
use Rattle.calls.specs.declared.certificate.Certificate.{Certificate}
use Rattle.docket.specs.declared.step.Step.{Step}
use Rattle.docket.specs.Kept.{ranks_in}

largest_from : (a : ℕ) (xs : List Step) → fold (λ m s. max m s.rank) a xs ≡ max a (largest_of (ranks_in xs))
largest_from a [] = omega arith
largest_from a (x ∷ xs) = omega (arith, largest_from (max a x.rank) xs)

-- the first step with a rank error that some step has
first_step : (m r n : ℕ) → cond (eqb m r) 0 (suc n) ≡ cond (eqb r m) 0 (1 + n)
first_step m r n = grind (arith, nat_tests)

first_is : (m : ℕ) (xs : List Step) → place m (ranks_in xs) < length xs → position (λ s. eqb s.rank m) xs ≡ Some (place m (ranks_in xs))
first_is m xs h =
    let e : place m (ranks_in xs) ≡ position_or_len (λ s. eqb s.rank m) xs =
    is_position_or_len (λ (ys : List Step). place m (ranks_in ys)) (λ s. eqb s.rank m) refl (λ x ys. first_step m x.rank (place m (ranks_in ys))) xs in
    ap (λ (n : ℕ). cond (ltb n (length xs)) (Some n) None) (sym e) ∙ cond-true (ltb (place m (ranks_in xs)) (length xs)) (Some (place m (ranks_in xs))) None (lt-ltb _ _ h)

-- what is summed up of the steps
pub summed : (xs : List Step) (t m : ℕ) (f : Option ℕ) → t ≡ sum_by (λ s. s.rank) xs → m ≡ fold (λ n s. max n s.rank) 0 xs → f ≡ position (λ s. eqb s.rank m) xs
    → ◌≡◌ {A = Certificate} (record { total = t; largest = m; first = unwrap_or f 0 }) (summed_up (ranks_in xs))
summed [] t m f a b c = ap (λ (v : ℕ). record { total = v; largest = m; first = unwrap_or f 0 }) a ∙ ap (λ (v : ℕ). record { total = 0; largest = v; first = unwrap_or f 0 }) b
    ∙ ap (λ (v : Option ℕ). record { total = 0; largest = 0; first = unwrap_or v 0 }) c
summed (x ∷ xs) t m f a b c =
    let rs = ranks_in (x ∷ xs) in
    let total : t ≡ sum rs = a ∙ sym (sum-map (λ (s : Step). s.rank) (x ∷ xs)) in
    let large : m ≡ largest_of rs = omega (arith, b, largest_from 0 (x ∷ xs)) in
    let long = length-map (x ∷ xs) (λ (s : Step). s.rank) in
    let found : f ≡ Some (place (largest_of rs) rs) =
    c ∙ ap (λ (v : ℕ). position (λ s. eqb s.rank v) (x ∷ xs)) large ∙ first_is (largest_of rs) (x ∷ xs) (omega (arith, long, largest_stands rs (omega (arith, long)))) in
    ap (λ (v : ℕ). record { total = v; largest = m; first = unwrap_or f 0 }) total
    ∙ ap (λ (v : ℕ). record { total = sum rs; largest = v; first = unwrap_or f 0 }) large
    ∙ ap (λ (v : Option ℕ). record { total = sum rs; largest = largest_of rs; first = unwrap_or v 0 }) found
