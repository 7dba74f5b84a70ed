-- The answer to placing a step means what it says, and no other answer does. Assumes nothing.
use Rattle.std.proofs.Common.{◌≡◌, ℕ, ◌<◌, Bool, true, false, cond, not, ◌&&◌, ltb, leb, List, length, Some, None, Ok, Err, Option, Result, sym, refl, ap, ◌∙◌, subst, ⊎_elim, arith}
use Rattle.std.proofs.lemmas.Bool.{cond_both, cond-true, cond-false, leb-true, leb-false, le-leb, lt-leb, ltb-true, ltb-false, lt-ltb, le-ltb, eqb-true, eqb-false, eq-eqb, ne_eqb, not-true, not-false, not_from_true, not_from_false, and_parts, and_from, both_ways, cases_Bool}
use Rattle.giving.specs.Lists.{SeatRule, times}
use Rattle.order.specs.declared.operation.Deed.{Deed}
use Rattle.order.specs.declared.operation.Paired.{Paired}
use Rattle.calls.specs.declared.fault.DocketFault.{DocketFault}
use Rattle.calls.specs.declared.fault.DocketFault.TheVariants.{NoSuchOperation, PlacedAlready, TooEarly, NotHeld, AboveBound, NothingToLift, StepsMissing, BufferTooShort}
use Rattle.order.specs.Steps.{operation, has_rank, rank_error, giving_after}
use Rattle.order.specs.Times.{precedes}
use Rattle.order.specs.Orders.{Acceptable}
use Rattle.order.proofs.Stretches.{shortest, has_one, only}
use Rattle.calls.specs.Rules.{unplaced, waits_for, unless_early, rank_if_any, bounded_rank, judged_answer, place_answer}
use Rattle.calls.specs.Meanings.{NotPlaced, Waits, WaitsForNone, Placing}
use Rattle.calls.proofs.Lowest.{Lowest, lowest_is, same_lowest}

module _ (ops : List Paired) (p : List ℕ) (x : ℕ) where
  abbrev waiting : ℕ → Bool
  waiting b = unplaced p b && precedes ops b x

  waits : (b : ℕ) → b < length ops → waiting b ≡ true → Waits ops p x b
  waits b l e = let h = and_parts (unplaced p b) (precedes ops b x) e in (l, eqb-true (times b p) 0 h.0, h.1)

  waits_true : (b : ℕ) → Waits ops p x b → waiting b ≡ true
  waits_true b w = and_from (unplaced p b) (precedes ops b x) (eq-eqb (times b p) 0 w.1) w.2

  waits_false : (b : ℕ) → b < length ops → (Waits ops p x b → ⊥) → waiting b ≡ false
  waits_false b l h = ⊎_elim (λ e. absurd (h (waits b l e))) (λ e. e) (cases_Bool (waiting b))

  waits_not : (b : ℕ) → waiting b ≡ false → Waits ops p x b → ⊥
  waits_not b e w = both_ways (waiting b) e (waits_true b w)

  waits_is : (o : Option ℕ) → Lowest waiting 0 (length ops) o → waits_for ops p x ≡ o
  waits_is o h = same_lowest waiting 0 (length ops) (waits_for ops p x) o (lowest_is waiting 0 (length ops)) h

module _ (seat : SeatRule) (ops : List Paired) (k : ℕ) (p : List ℕ) (x : ℕ) where
  abbrev deed : Deed
  deed = (operation ops x).deed

  abbrev held : List ℕ
  held = giving_after seat ops p

  abbrev cost : ℕ
  cost = rank_error deed held

  -- what is left of the answer once the earlier rules are passed
  abbrev bounded : Result ℕ DocketFault
  bounded = cond (ltb k cost) (Err (AboveBound (length p) cost)) (Ok cost)

  abbrev ranked : Result ℕ DocketFault
  ranked = bounded_rank (length p) k (rank_if_any deed held)

  abbrev timed : Result ℕ DocketFault
  timed = unless_early (length p) (waits_for ops p x) ranked

  abbrev fresh : Result ℕ DocketFault
  fresh = cond (not (unplaced p x)) (Err (PlacedAlready (length p))) timed

  pub judged : Placing seat ops k p x (place_answer seat ops k p x)
  unfolding judged_answer rank_if_any
  judged =
      let n : ℕ = length ops in
      let P : Result ℕ DocketFault → Type 0 = Placing seat ops k p x in
      cond_both (leb n x) (Err (NoSuchOperation (length p))) fresh P
      (λ e. (refl, leb-true n x e))
      (λ e0. let l : x < n = leb-false n x e0 in
      cond_both (not (unplaced p x)) (Err (PlacedAlready (length p))) timed P
      (λ e. (refl, (l, let z = eqb-false (times x p) 0 (not-true (unplaced p x) e) in omega (arith, z))))
      (λ e1. let z : times x p ≡ 0 = eqb-true (times x p) 0 (not-false (unplaced p x) e1) in
      elim (waits_for ops p x) as (λ o. Lowest (waiting ops p x) 0 n o → P (unless_early (length p) o ranked)) [
        | Some b ↦ λ h. (refl, ((l, z), waits ops p x b (omega arith) h.2, λ c u. waits_not ops p x c (h.3 c (omega arith) u)))
        | None ↦ λ h.
            let free : WaitsForNone ops p x = λ b w. waits_not ops p x b (h b (omega arith) (omega arith)) w in
            cond_both (has_rank deed held) (Some cost) None (λ (r : Option ℕ). P (bounded_rank (length p) k r))
            (λ ok. cond_both (ltb k cost) (Err (AboveBound (length p) cost)) (Ok cost) P
            (λ e. (refl, ((l, z), free, shortest deed held ok, ltb-true k cost e)))
            (λ e3. (
              record {
                known = l;
                fresh = z;
                in_time = λ b lb zb. ⊎_elim (λ pr. absurd (free b (lb, zb, pr))) (λ pr. pr) (cases_Bool (precedes ops b x));
                ranked = ok;
                small = ltb-false k cost e3;
              },
              shortest deed held ok,
            )))
            (λ no. (refl, ((l, z), free, λ r s. both_ways (has_rank deed held) no (has_one deed held r s))))
      ]
      (lowest_is (waiting ops p x) 0 n)))

  -- ---- no other answer

  to_fresh : x < length ops → place_answer seat ops k p x ≡ fresh
  unfolding judged_answer
  to_fresh l = cond-false (leb (length ops) x) (Err (NoSuchOperation (length p))) fresh (lt-leb (length ops) x l)

  to_timed : NotPlaced ops p x → place_answer seat ops k p x ≡ timed
  to_timed h =
      to_fresh h.0 ∙ cond-false (not (unplaced p x)) (Err (PlacedAlready (length p))) timed (not_from_true (unplaced p x) (eq-eqb (times x p) 0 h.1))

  to_ranked : NotPlaced ops p x → WaitsForNone ops p x → place_answer seat ops k p x ≡ ranked
  to_ranked h free =
      to_timed h ∙ ap (λ (o : Option ℕ). unless_early (length p) o ranked) (waits_is ops p x None (λ c l u. waits_false ops p x c (omega arith) (free c)))

  to_bounded : NotPlaced ops p x → WaitsForNone ops p x → has_rank deed held ≡ true → place_answer seat ops k p x ≡ bounded
  unfolding rank_if_any
  to_bounded h free ok = to_ranked h free ∙ ap (bounded_rank (length p) k) (cond-true (has_rank deed held) (Some cost) None ok)

  pub accepted : Acceptable ops k p held x → place_answer seat ops k p x ≡ Ok cost
  accepted h =
      to_bounded (h.known, h.fresh) (λ b w. both_ways (precedes ops b x) (h.in_time b w.0 w.1) w.2) h.ranked
      ∙ cond-false (ltb k cost) (Err (AboveBound (length p) cost)) (Ok cost) (le-ltb k cost h.small)

  refusal_is : (e : DocketFault) → Placing seat ops k p x (Err e) → place_answer seat ops k p x ≡ Err e
  unfolding judged_answer rank_if_any
  refusal_is (NoSuchOperation s) h =
      cond-true (leb (length ops) x) (Err (NoSuchOperation (length p))) fresh (le-leb (length ops) x h.1) ∙ ap (λ m. Err (NoSuchOperation m)) (sym h.0)
  refusal_is (PlacedAlready s) h =
      to_fresh h.1.0 ∙ (cond-true (not (unplaced p x)) (Err (PlacedAlready (length p))) timed (not_from_false (unplaced p x) (ne_eqb (times x p) 0 (λ z. omega arith)))
      ∙ ap (λ m. Err (PlacedAlready m)) (sym h.0))
  refusal_is (TooEarly s b) h =
      to_timed h.1.0
      ∙ (ap (λ (o : Option ℕ). unless_early (length p) o ranked)
      (waits_is ops p x (Some b) (omega arith, omega arith, waits_true ops p x b h.1.1, λ c l u. waits_false ops p x c (omega arith) (h.1.2 c u)))
      ∙ ap (λ m. Err (TooEarly m b)) (sym h.0))
  refusal_is (NotHeld s) h =
      let none : has_rank deed held ≡ false = ⊎_elim (λ e. absurd (h.1.2 cost (shortest deed held e).stretch)) (λ e. e) (cases_Bool (has_rank deed held)) in
      to_ranked h.1.0 h.1.1
      ∙ (ap (bounded_rank (length p) k) (cond-false (has_rank deed held) (Some cost) None none) ∙ ap (λ m. Err (NotHeld m)) (sym h.0))
  refusal_is (AboveBound s r) h =
      let e : r ≡ cost = only deed held r h.1.2 in
      to_bounded h.1.0 h.1.1 (has_one deed held r h.1.2.stretch)
      ∙ (cond-true (ltb k cost) (Err (AboveBound (length p) cost)) (Ok cost) (lt-ltb k cost (omega arith))
      ∙ (ap (λ m. Err (AboveBound m cost)) (sym h.0) ∙ ap (λ m. Err (AboveBound s m)) (sym e)))
  refusal_is NothingToLift h = absurd h.1
  refusal_is (StepsMissing s a) h = absurd h.1
  refusal_is (BufferTooShort n) h = absurd h.1

  pub answer_is : (a : Result ℕ DocketFault) → Placing seat ops k p x a → place_answer seat ops k p x ≡ a
  answer_is (Ok r) h = accepted h.0 ∙ ap Ok (sym (only deed held r h.1))
  answer_is (Err e) h = refusal_is e h

  pub means : (a : Result ℕ DocketFault) → place_answer seat ops k p x ≡ a → Placing seat ops k p x a
  means a e = subst (Placing seat ops k p x) e judged
