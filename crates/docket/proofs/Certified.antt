-- The certificate of a docket in agreement. Assumes nothing.
use Rattle.std.proofs.Common.{◌≡◌, ℕ, ◌<◌, Bool, true, false, cond, not, eqb, List, length, take, Some, None, Ok, Err, Option, Result, sym, ap, ◌∙◌, arith}
use Rattle.std.proofs.lemmas.List.{length-take-le, length-map, get_or-take, get_or-map}
use Rattle.std.proofs.lemmas.List.FromFn.{fill_by_all}
use Rattle.std.proofs.lemmas.Bool.{cond-true, cond-false}
use Rattle.calls.specs.declared.certificate.Certificate.{Certificate}
use Rattle.order.specs.Times.{earliest}
use Rattle.giving.specs.Lists.{SeatRule, times}
use Rattle.order.specs.Steps.{lateness}
use Rattle.calls.specs.declared.fault.DocketFault.{DocketFault}
use Rattle.calls.specs.declared.fault.DocketFault.TheVariants.{StepsMissing, BufferTooShort}
use Rattle.giving.specs.Fronts.{over}
use Rattle.calls.specs.Rules.{missing, unless_missing, is_too_short, certify_answer, written, certificate_of, latenesses_of, Buffers, lowest, unplaced, summed_up}
use Rattle.docket.specs.declared.entry.Entry.{Entry}
use Rattle.docket.specs.declared.ledger.Ledger.{Ledger}
use Rattle.docket.specs.Kept.{blank}
use Rattle.docket.specs.InAgreement.{ops_of, steps_of, InAgreement, lates_of, errors_of}
use Rattle.docket.specs.Buffers.{buffers_of}
use Rattle.docket.specs.Moves.{not_placed}
use Rattle.docket.proofs.PlacedSteps.{lowest_ext}
use Rattle.docket.proofs.Fronts.{same_buffers}
use Rattle.docket.proofs.Placing.{long_steps, long_ops, not_not}

module _ (seat : SeatRule) (l : Ledger) where
  missing_same : lowest (not_placed l.entries) 0 l.count ≡ missing (ops_of l) (steps_of l)
  missing_same =
      lowest_ext (not_placed l.entries) (unplaced (steps_of l)) 0 l.count
      (λ b h. ap not (l.flagged b (omega arith)) ∙ not_not (eqb (times b (steps_of l)) 0))
      ∙ ap (λ (n : ℕ). lowest (unplaced (steps_of l)) 0 n) (sym (long_ops l))

  lates_same : (L : List ℕ) (n : ℕ) → InAgreement seat L n l → lates_of l ≡ latenesses_of seat (ops_of l) (steps_of l)
  lates_same L n i =
      let few = length-take-le l.count l.entries (omega arith) in
      let long : length (lates_of l) ≡ length (ops_of l) = length-map (take l.count l.entries) (λ (e : Entry). e.late) ∙ few ∙ sym (long_ops l) in
      fill_by_all (λ a. lateness seat (ops_of l) a (steps_of l)) (lates_of l) (length (ops_of l)) 0 long
      (λ x h.
      let xn : x < l.count = omega (arith, long_ops l) in
      get_or-map (λ (e : Entry). e.late) (take l.count l.entries) x blank 0 (omega arith) ∙ ap (λ (e : Entry). e.late) (get_or-take l.count l.entries x blank xn) ∙ i.lates x xn)

  abbrev chosen : Buffers → Option ℕ → Result Certificate DocketFault
  chosen b o = unless_missing (steps_of l) o (cond (is_too_short (length (ops_of l)) b) (Err (BufferTooShort (length (ops_of l)))) (Ok (certificate_of seat (ops_of l) (steps_of l))))

  chosen_is : (b : Buffers) (o : Option ℕ) → o ≡ lowest (not_placed l.entries) 0 l.count → chosen b o ≡ certify_answer seat (ops_of l) (steps_of l) b
  chosen_is b o e = ap (chosen b) (e ∙ missing_same)

  pub cert_missing : (b : Buffers) (a : ℕ) → Some a ≡ lowest (not_placed l.entries) 0 l.count → Err (StepsMissing l.placed a) ≡ certify_answer seat (ops_of l) (steps_of l) b
  cert_missing b a e = ap (λ (n : ℕ). Err (StepsMissing n a)) (sym (long_steps l)) ∙ chosen_is b (Some a) e

  short_is : (b : Buffers) (v : Bool) → v ≡ is_too_short l.count b → is_too_short (length (ops_of l)) b ≡ v
  short_is b v s = ap (λ (n : ℕ). is_too_short n b) (long_ops l) ∙ sym s

  pub cert_short : (b : Buffers) → None ≡ lowest (not_placed l.entries) 0 l.count → true ≡ is_too_short l.count b → Err (BufferTooShort l.count) ≡ certify_answer seat (ops_of l) (steps_of l) b
  cert_short b e s = sym (cond-true _ _ _ (short_is b true s) ∙ ap (λ (n : ℕ). Err (BufferTooShort n)) (long_ops l)) ∙ chosen_is b None e

  pub cert_ok : (b : Buffers) (c : Certificate) (L : List ℕ) (n : ℕ) → None ≡ lowest (not_placed l.entries) 0 l.count → false ≡ is_too_short l.count b
      → c ≡ summed_up (errors_of l) → InAgreement seat L n l → Ok c ≡ certify_answer seat (ops_of l) (steps_of l) b
  cert_ok b c L n e s is i = ap Ok (is ∙ ap summed_up i.errors) ∙ sym (cond-false _ _ _ (short_is b false s)) ∙ chosen_is b None e

  pub cert_written : (r i t r' i' t' : List ℕ) (c : Certificate) (L : List ℕ) (n : ℕ)
      → r' ≡ over (errors_of l) r → i' ≡ over (earliest (ops_of l) (steps_of l)) i → t' ≡ over (lates_of l) t → InAgreement seat L n l → buffers_of r' i' t' ≡ written seat (ops_of l) (steps_of l) (buffers_of r i t) (Ok c)
  cert_written r i t r' i' t' c L n re ie te s = same_buffers (re ∙ ap (λ (v : List ℕ). over v r) s.errors) ie (te ∙ ap (λ (v : List ℕ). over v t) (lates_same L n s))
