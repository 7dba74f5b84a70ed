-- The largest starts so far are no larger than any admissible instants. Assumes nothing.
use Rattle.std.proofs.Common.{◌≡◌, ℕ, suc, ◌≤◌, max, List, [], ◌∷◌, ◌++◌, length, refl, ap, arith}
use Rattle.std.specs.List.{AllZip}
use Rattle.order.specs.declared.operation.Paired.{Paired}
use Rattle.order.specs.Steps.{operation}
use Rattle.order.specs.Times.{InstantsFrom, earliest_from}

module _ (ops : List Paired) where
  pub earliest_below : (m m' : ℕ) (p ts : List ℕ) → m ≤ m' → InstantsFrom ops m' p ts → AllZip ◌≤◌ (earliest_from ops m p) ts
  earliest_below m m' [] [] h i = tt
  earliest_below m m' [] (t ∷ ts) h i = elim i [ ]
  earliest_below m m' (x ∷ p) [] h i = elim i [ ]
  earliest_below m m' (x ∷ p) (t ∷ ts) h i =
      let s : max m (operation ops x).start ≤ t = omega arith in
      (s, earliest_below (max m (operation ops x).start) t p ts s i.3)

  pub length_earliest : (m : ℕ) (p : List ℕ) → length (earliest_from ops m p) ≡ length p
  length_earliest m [] = refl
  length_earliest m (x ∷ p) = ap suc (length_earliest (max m (operation ops x).start) p)

  -- the largest start among m and the steps, which is the last of their earliest instants
  abbrev pub largest_start : ℕ → List ℕ → ℕ
  largest_start m [] = m
  largest_start m (x ∷ p) = largest_start (max m (operation ops x).start) p

  -- both with one more step
  pub largest_start_push : (m : ℕ) (p : List ℕ) (x : ℕ) → largest_start m (p ++ x ∷ []) ≡ max (largest_start m p) (operation ops x).start
  largest_start_push m [] x = refl
  largest_start_push m (y ∷ p) x = largest_start_push (max m (operation ops y).start) p x

  pub earliest_push : (m : ℕ) (p : List ℕ) (x : ℕ) → earliest_from ops m (p ++ x ∷ []) ≡ earliest_from ops m p ++ max (largest_start m p) (operation ops x).start ∷ []
  earliest_push m [] x = refl
  earliest_push m (y ∷ p) x = ap (λ (l : List ℕ). max m (operation ops y).start ∷ l) (earliest_push (max m (operation ops y).start) p x)
