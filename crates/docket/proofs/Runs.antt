-- A run of operations, turn by turn. Assumes nothing.
use Rattle.std.proofs.Common.{◌≡◌, ℕ, suc, ◌+◌, ◌<◌, ◌≤◌, List, [], ◌∷◌, ◌++◌, length, get_or, drop, Some, None, Ok, Err, Result, sym, ap, ◌∙◌, arith}
use Rattle.std.proofs.lemmas.List.{at_drop_more, at_drop_all}
use Rattle.giving.specs.Lists.{SeatRule}
use Rattle.order.specs.declared.operation.Paired.{Paired}
use Rattle.calls.specs.declared.fault.DocketFault.{DocketFault}
use Rattle.calls.specs.Rules.{Run, place_answer, unless_refused, run_of}

module _ (seat : SeatRule) (ops : List Paired) (k : ℕ) (p : List ℕ) (i : ℕ) (xs : List ℕ) where
  -- no operation is left
  pub run_ended : length xs ≤ i → run_of seat ops k p i (drop i xs) ≡ record { steps = p; new = i; stopped = None }
  run_ended h = at_drop_all (run_of seat ops k p i) xs i h

  -- the next operation, and what comes of the rest once it is placed
  module _ (h : i < length xs) where
    next : Run
    next = run_of seat ops k (p ++ get_or xs i 0 ∷ []) (suc i) (drop (i + 1) xs)

    turn : (a b : Result ℕ DocketFault) → a ≡ place_answer seat ops k p (get_or xs i 0) → a ≡ b → run_of seat ops k p i (drop i xs) ≡ unless_refused p i b next
    unfolding next
    turn a b is s = at_drop_more (run_of seat ops k p i) xs i 0 h ∙ ap (λ (v : Result ℕ DocketFault). unless_refused p i v next) (sym is ∙ s)

    pub run_stopped : (a : Result ℕ DocketFault) (e : DocketFault) → a ≡ place_answer seat ops k p (get_or xs i 0) → a ≡ Err e
        → run_of seat ops k p i (drop i xs) ≡ record { steps = p; new = i; stopped = Some e }
    run_stopped a e is s = turn a (Err e) is s

    -- what the docket is after the step
    pub run_more : (a : Result ℕ DocketFault) (r : ℕ) (os : List Paired) (b : ℕ) (q : List ℕ) → a ≡ place_answer seat ops k p (get_or xs i 0) → a ≡ Ok r
        → os ≡ ops → b ≡ k → q ≡ p ++ get_or xs i 0 ∷ [] → run_of seat ops k p i (drop i xs) ≡ run_of seat os b q (i + 1) (drop (i + 1) xs)
    unfolding next
    run_more a r os b q is s o e j =
        let n : suc i ≡ i + 1 = omega arith in
        turn a (Ok r) is s ∙ ap (λ (v : ℕ). run_of seat ops k (p ++ get_or xs i 0 ∷ []) v (drop (i + 1) xs)) n
        ∙ ap (λ (v : List ℕ). run_of seat ops k v (i + 1) (drop (i + 1) xs)) (sym j)
        ∙ ap (λ (v : ℕ). run_of seat ops v q (i + 1) (drop (i + 1) xs)) (sym e)
        ∙ ap (λ (v : List Paired). run_of seat v b q (i + 1) (drop (i + 1) xs)) (sym o)
