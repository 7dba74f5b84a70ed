use Rattle.std.proofs.Common.{◌≡◌, ℕ, zero, suc, ◌+◌, ◌∷◌, replicate, map, refl, ap, arith, rules}
use Rattle.std.specs.List.{range_with_len}
use Rattle.std.proofs.lemmas.Iterator.{YieldsList-from_range, YieldsList-from_map, items_from_collect}
use Rattle.comparison.proofs.heap.Heap.copies.Goals as goal

-- one value for each number
each : {T : Type 0} (x : T) (n i : ℕ) → map (λ k. x) (range_with_len i n) ≡ replicate n x
each x zero i = refl
each x (suc n) i = ap (λ xs. x ∷ xs) (each x n (i + 1))

pub returns-clause-items : goal.returns-clause-items
returns-clause-items g c =
    let n = c.args.count in
    rw (c.noted.ensures.same, ← (each c.args.value c.args.count 0))
    (items_from_collect _ c.collect-answer.ensures.ran (YieldsList-from_map _ (λ i. c.args.value) (YieldsList-from_range 0 n n (cc) (omega arith)) c.map.ensures.closure (λ x r q k. search rules)))
