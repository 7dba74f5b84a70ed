-- What an outcome in plain numbers says of the answer that it is of.
use Rattle.std.proofs.Common.{◌≡◌, ℕ, List, IfOk, Ok, Err, Result, sym, ap, subst, arith}
use Rattle.refusal.specs.declared.Refusal.{Refusal}
use Rattle.calls.specs.declared.certificate.Certificate.{Certificate}
use Rattle.calls.specs.Rules.{Buffers}
use Rattle.examination.specs.Traces.{CertifiedOfEither}
use Rattle.exports.specs.declared.PlainOutcome.{PlainOutcome}
use Rattle.exports.specs.Plain.{plain, certificate_in}

-- one with status 0 has the numbers of a certificate, which says what is true of the trace; v are the buffers that it leaves
pub certified_outcome : (bs : List ℕ) (b w : Buffers) {v : Buffers} (r : Result Certificate Refusal) (o : PlainOutcome) → o ≡ plain r → IfOk r (λ c. CertifiedOfEither bs b c w) → v ≡ w → o.status ≡ 0 →
    CertifiedOfEither bs b (certificate_in o) v
certified_outcome bs b w (Ok c) o e h l s = subst (λ (v : Buffers). CertifiedOfEither bs b (certificate_in o) v) (sym l) (subst (λ (z : Certificate). CertifiedOfEither bs b z w) (sym (ap certificate_in e)) h)
certified_outcome bs b w (Err f) o e h l s = let one : o.status ≡ 1 = ap (λ (z : PlainOutcome). z.status) e in absurd (omega (arith, one, s))
