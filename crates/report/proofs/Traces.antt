-- A certificate is granted exactly to the bytes of a true trace.
use Rattle.std.proofs.Common.{◌≡◌, ℕ, Bool, true, List, refl, sym, ◌∙◌}
use Rattle.item.specs.declared.item.Item.{Ghosts}
use Rattle.item.specs.Items.{Lawful}
use Rattle.record.specs.Bytes.{Bytes}
use Rattle.trace.specs.Reading.{Outcome, reading}
use Rattle.trace.specs.Reading.Outcome.{unread, refused, accepted}
use Rattle.examination.specs.Kinds.{seat_of}
use Rattle.examination.specs.Traces.{TrueTraceOfEither}
use Rattle.examination.proofs.TrueTraces.{TrueOutcome, true_of_outcome, outcome_of_true, IsOfType, by_its_type}
use Rattle.report.specs.Reports.{Verdict, saying, report_on}
use Rattle.report.proofs.Verdicts.{granted_exactly}

-- a certificate is granted exactly where the trace is accepted and its order is true
granted_outcome : {I : Type 0} (t : Ghosts I) (o : Outcome I) (b : Bool) → b ≡ (saying t o).granted → (b ≡ true → TrueOutcome t o) × (TrueOutcome t o → b ≡ true)
granted_outcome t (unread e) b s = (λ g. absurd (cc), λ h. absurd h)
granted_outcome t (refused os i e) b s = (λ g. absurd (cc), λ h. absurd h)
granted_outcome t (accepted c) b s =
    let exactly = granted_exactly t (seat_of c.kind) c.ops c.k c.order (saying t (accepted c)) refl in
    (λ g. exactly.0 (sym s ∙ g), λ h. s ∙ exactly.1 h)

pub granted_exactly_to_true : {I : Type 0} (t : Ghosts I) → Lawful t → (bs : List ℕ) → Bytes bs → IsOfType t bs → (b : Bool) → b ≡ (saying t (reading t 1024 bs)).granted →
    (b ≡ true → TrueTraceOfEither bs) × (TrueTraceOfEither bs → b ≡ true)
granted_exactly_to_true t law bs bytes type b s =
    let g = granted_outcome t (reading t 1024 bs) b s in
    (λ e. type.either (true_of_outcome t law bs bytes (g.0 e)), λ h. g.1 (outcome_of_true t law bs (type.only h).0))

-- by the item type that its header names
pub reported_exactly : (bs : List ℕ) → Bytes bs → (b : Bool) → b ≡ (report_on bs).granted → (b ≡ true → TrueTraceOfEither bs) × (TrueTraceOfEither bs → b ≡ true)
reported_exactly bs bytes b e =
    by_its_type (λ I t. saying t (reading t 1024 bs)) (λ (v : Verdict). b ≡ v.granted → (b ≡ true → TrueTraceOfEither bs) × (TrueTraceOfEither bs → b ≡ true)) bs
    (λ I t law type. granted_exactly_to_true t law bs bytes type b) e
