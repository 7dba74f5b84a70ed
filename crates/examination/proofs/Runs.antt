-- A run of a whole order, and what is certified after it.
use Rattle.std.proofs.Common.{◌≡◌, ℕ, List, [], None, Result, sym, ap, ◌∙◌, ⊎_elim}
use Rattle.giving.specs.Lists.{SeatRule}
use Rattle.order.specs.declared.operation.Paired.{Paired}
use Rattle.calls.specs.declared.certificate.Certificate.{Certificate}
use Rattle.calls.specs.declared.fault.DocketFault.{DocketFault}
use Rattle.calls.specs.Rules.{Run, run_of, Buffers, certify_answer, written}
use Rattle.calls.proofs.RunsAndLifts.{Outcome, outcome}
use Rattle.holder.specs.declared.holder.Holder.{Ghosts}
use Rattle.docket.specs.declared.docket.Docket.{Docket}
use Rattle.docket.specs.Agreed.{ops_in, steps_in, bound_in, running, certifying, writing}
use Rattle.examination.specs.Orders.{unless_stopped, order_outcome, order_written}

-- a run that nothing stopped placed the whole order
ran : (seat : SeatRule) (ops : List Paired) (k : ℕ) (xs : List ℕ) (R : Run) → Outcome seat ops k [] 0 xs R → R.stopped ≡ None → R.steps ≡ xs
ran seat ops k xs R o e =
    ⊎_elim (λ h. ap (λ (z : Run). z.steps) h.1) (λ h. absurd (let q = h.7 in cc)) o

pub ran_whole : (seat : SeatRule) (ops : List Paired) (k : ℕ) (xs : List ℕ) → (run_of seat ops k [] 0 xs).stopped ≡ None → (run_of seat ops k [] 0 xs).steps ≡ xs
ran_whole seat ops k xs e = ran seat ops k xs (run_of seat ops k [] 0 xs) (outcome seat ops k xs [] 0) e

module _ {X : Type 0} (m : Ghosts X) (ops : List Paired) (k : ℕ) (p : List ℕ) (b : Buffers) where
  -- a run on a docket that was opened on these operations
  pub run_is : (d : Docket X m) → ops_in d ≡ ops → bound_in d ≡ k → steps_in d ≡ [] → running m d p ≡ run_of m.seat ops k [] 0 p
  run_is d o l s =
      ap (λ z. run_of m.seat z (bound_in d) (steps_in d) 0 p) o ∙ ap (λ z. run_of m.seat ops z (steps_in d) 0 p) l ∙ ap (λ z. run_of m.seat ops k z 0 p) s

  -- after one that nothing stopped, what the docket answers to certify, and has it write, is the examination's
  pub certified_answer : (d d' : Docket X m) (a : Result Certificate DocketFault) (w : Buffers) → ops_in d ≡ ops → bound_in d ≡ k → steps_in d ≡ [] → (running m d p).stopped ≡ None →
      ops_in d' ≡ ops_in d → steps_in d' ≡ (running m d p).steps → a ≡ certifying m d' b → w ≡ writing m d' b a →
      (a ≡ order_outcome m.seat ops k p b) × (w ≡ order_written m.seat ops k p b)
  certified_answer d d' a w o l s none o' s' e v =
      let same = run_is d o l s in
      let whole : (run_of m.seat ops k [] 0 p).stopped ≡ None = sym (ap (λ (z : Run). z.stopped) same) ∙ none in
      let placed : steps_in d' ≡ p = s' ∙ ap (λ (z : Run). z.steps) same ∙ ran_whole m.seat ops k p whole in
      let go = ap (λ z. unless_stopped z (certify_answer m.seat ops p b)) whole in
      let table : ops_in d' ≡ ops = o' ∙ o in
      let e' : a ≡ order_outcome m.seat ops k p b =
      e ∙ ap (λ z. certify_answer m.seat z (steps_in d') b) table ∙ ap (λ z. certify_answer m.seat ops z b) placed ∙ sym go in (
        e',
        v ∙ ap (λ z. written m.seat z (steps_in d') b a) table ∙ ap (λ z. written m.seat ops z b a) placed ∙ ap (λ z. written m.seat ops p b z) e',
      )
