-- From the examination of an order to what is printed.
use Rattle.std.proofs.Common.{◌≡◌, ℕ, zero, suc, ◌<◌, ◌≤◌, Bool, true, false, cond, List, [], ◌++◌, map, length, get_or, is_ok, Some, None, Ok, Err, Option, Result, sym, refl, ap, ◌∙◌, arith}
use lib.ListN.{length-map}
use Rattle.std.proofs.lemmas.List.FromFn.{length-map-range_with_len}
use Rattle.std.specs.List.{slice_get}
use Rattle.giving.specs.Lists.{SeatRule}
use Rattle.refusal.specs.declared.Refusal.{Refusal}
use Rattle.item.specs.declared.item.Item.{Ghosts}
use Rattle.sheet.specs.declared.operation.Operation.{Operation}
use Rattle.order.specs.declared.operation.Paired.{Paired}
use Rattle.order.specs.Steps.{rank_errors, lateness}
use Rattle.order.specs.Times.{earliest}
use Rattle.order.specs.Orders.{TrueOrder}
use Rattle.order.proofs.Growing.{length_ranks}
use Rattle.order.proofs.Earliest.{length_earliest}
use Rattle.order.proofs.Whole.{placed_of_true}
use Rattle.calls.specs.declared.fault.DocketFault.{DocketFault}
use Rattle.calls.specs.declared.fault.DocketFault.TheVariants.{BufferTooShort}
use Rattle.calls.specs.declared.certificate.Certificate.{Certificate}
use Rattle.giving.specs.Fronts.{over}
use Rattle.giving.proofs.Fronts.{over_at}
use Rattle.calls.specs.Rules.{run_of, Buffers, is_too_short, latenesses_of, figures_of, certificate_of, certify_answer, written, unless_missing, missing}
use Rattle.calls.proofs.Grants.{false_short}
use Rattle.docket.specs.Pairs.{paired_all, paired_of}
use Rattle.examination.specs.Orders.{unless_stopped, refused_as, order_answer, order_written}
use Rattle.examination.proofs.Grants as order
use Rattle.examination.proofs.Grants.{granted_is_true}
use Rattle.report.specs.Lines.{up_to, step_at, line_of_step, lines_of_steps, late_of, late_at, lines_of_lates, line_of_certified}
use Rattle.report.specs.Reports.{Verdict, granting, answering, whole, stopping, verdict_of_order}

-- ---- lines from the front of a buffer

up_to_same : (f g : ℕ → List ℕ) (n : ℕ) → ((s : ℕ) → s < n → f s ≡ g s) → up_to n f ≡ up_to n g
up_to_same f g zero h = refl
up_to_same f g (suc n) h = ap (λ z. z ++ f n) (up_to_same f g n (λ s l. h s (omega arith))) ∙ ap (λ z. up_to n g ++ z) (h n (omega arith))

steps_front : (p rs ts b d : List ℕ) → length rs ≡ length p → length ts ≡ length p → lines_of_steps p (over rs b) (over ts d) ≡ lines_of_steps p rs ts
steps_front p rs ts b d r t =
    up_to_same (step_at p (over rs b) (over ts d)) (step_at p rs ts) (length p)
    (λ s l.
    ap (λ z. line_of_step s (get_or p s 0) z (get_or (over ts d) s 0)) (over_at rs b s (omega arith))
    ∙ ap (λ z. line_of_step s (get_or p s 0) (get_or rs s 0) z) (over_at ts d s (omega arith)))

lates_front : {I : Type 0} (os : List (Operation I)) (ls b : List ℕ) → length ls ≡ length os → lines_of_lates os (over ls b) ≡ lines_of_lates os ls
lates_front os ls b e =
    up_to_same (late_at os (over ls b)) (late_at os ls) (length os) (λ s l. ap (λ z. late_of s z (slice_get os s)) (over_at ls b s (omega arith)))

-- ---- the answer to an order, by way of buffers with an entry for each operation

module _ {I : Type 0} (t : Ghosts I) (seat : SeatRule) (os : List (Operation I)) (k : ℕ) (p : List ℕ) (b : Buffers) where
  abbrev ops : List Paired
  ops = paired_all t.number os

  certificate_said : answering os k p (Ok (certificate_of seat ops p)) (written seat ops p b (Ok (certificate_of seat ops p))) ≡ granting os k p (certificate_of seat ops p) (figures_of seat ops p)
  certificate_said =
      let n : length (latenesses_of seat ops p) ≡ length os =
      length-map-range_with_len (λ a. lateness seat ops a p) 0 (length ops)
      ∙ length-map os (paired_of t.number os) in
      let end = line_of_certified k (certificate_of seat ops p) in
      ap (λ (z : List ℕ). record { text = z; granted = true })
      (ap (λ z. z ++ (lines_of_lates os (over (latenesses_of seat ops p) b.latenesses) ++ end))
      (steps_front p (rank_errors seat ops p) (earliest ops p) b.ranks b.instants (length_ranks seat ops p []) (length_earliest ops 0 p))
      ∙ ap (λ z. lines_of_steps p (rank_errors seat ops p) (earliest ops p) ++ (z ++ end)) (lates_front os (latenesses_of seat ops p) b.latenesses n))

  -- where every step was accepted
  whole_said : (m : Option ℕ) (short : Bool) (a : Result Certificate DocketFault) → short ≡ false →
      a ≡ unless_missing p m (cond short (Err (BufferTooShort (length ops))) (Ok (certificate_of seat ops p))) →
      answering os k p (refused_as a) (written seat ops p b a) ≡ whole t seat os k p m
  whole_said (Some x) short a s e = ap (λ z. answering os k p (refused_as z) (written seat ops p b z)) e
  whole_said None true a s e = absurd (cc)
  whole_said None false a s e = ap (λ z. answering os k p (refused_as z) (written seat ops p b z)) e ∙ certificate_said

  stopping_said : (s : Option DocketFault) → is_too_short (length ops) b ≡ false →
      answering os k p (refused_as (unless_stopped s (certify_answer seat ops p b))) (written seat ops p b (unless_stopped s (certify_answer seat ops p b))) ≡ stopping t seat os k p s
  stopping_said (Some e) long = refl
  stopping_said None long = whole_said (missing ops p) (is_too_short (length ops) b) (certify_answer seat ops p b) long refl

  -- what is printed of it is what is said of the order
  pub order_said : length os ≤ length b.ranks → length os ≤ length b.instants → length os ≤ length b.latenesses →
      (a : Result Certificate Refusal) (w : Buffers) → a ≡ order_answer seat ops k p b → w ≡ order_written seat ops k p b →
      answering os k p a w ≡ verdict_of_order t seat os k p
  order_said r i l a w e f =
      let n : length (paired_all t.number os) ≡ length os = length-map os (paired_of t.number os) in
      ap (λ z. answering os k p z w) e ∙ ap (λ z. answering os k p (order_answer seat ops k p b) z) f
      ∙ stopping_said (run_of seat ops k [] 0 p).stopped (false_short (length ops) b (omega arith, omega arith, omega arith))

module _ {I : Type 0} (t : Ghosts I) (seat : SeatRule) (os : List (Operation I)) (k : ℕ) (p : List ℕ) where
  -- buffers with an entry for each operation
  abbrev blank : Buffers
  blank = record { ranks = map (λ _. 0) os; instants = map (λ _. 0) os; latenesses = map (λ _. 0) os }

  pub granted_as : (a : Result Certificate Refusal) (w : Buffers) → (answering os k p a w).granted ≡ is_ok a
  granted_as (Ok c) w = refl
  granted_as (Err r) w = refl

  -- a certificate is granted exactly when the order is true
  pub granted_exactly : (v : Verdict) → v ≡ verdict_of_order t seat os k p →
      (v.granted ≡ true → TrueOrder seat (paired_all t.number os) k p) × (TrueOrder seat (paired_all t.number os) k p → v.granted ≡ true)
  granted_exactly v e =
      let ps = paired_all t.number os in
      let a = order_answer seat ps k p blank in
      let w = order_written seat ps k p blank in
      let n : length (map {B = ℕ} (λ _. 0) os) ≡ length os = length-map {B = ℕ} os (λ _. 0) in
      let m : length (paired_all t.number os) ≡ length os = length-map os (paired_of t.number os) in
      let exactly = order.granted_exactly seat ps k p blank (false_short (length ps) blank (omega arith, omega arith, omega arith)) a refl in
      let said = order_said t seat os k p blank (omega arith) (omega arith) (omega arith) a w refl refl in
      let g : v.granted ≡ is_ok (order_answer seat (paired_all t.number os) k p blank) =
      ap (λ (z : Verdict). z.granted) (e ∙ sym said) ∙ granted_as a w in
      (λ h. exactly.0 (sym g ∙ h), λ o. g ∙ exactly.1 o)

-- an order to which a certificate is granted has as many steps as there are operations
module _ {I : Type 0} (t : Ghosts I) (seat : SeatRule) (os : List (Operation I)) (k : ℕ) (p : List ℕ) (b : Buffers) where
  pub few_where_granted : (a : Result Certificate Refusal) → a ≡ order_answer seat (paired_all t.number os) k p b → is_ok a ≡ true → length p ≡ length os
  few_where_granted a e ok =
      (placed_of_true seat (paired_all t.number os) k p (granted_is_true seat (paired_all t.number os) k p b (sym (ap is_ok e) ∙ ok))).1 ∙ length-map os (paired_of t.number os)
