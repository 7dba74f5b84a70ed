-- Sessions: calls and answers that go together, with one rule for each kind of answer. Assumes nothing.
use Rattle.std.specs.Prelude.{◌≡◌, ℕ, ◌<◌, ◌⊎◌, List, [], ◌∷◌, ◌++◌, length, Some, None, Ok, Err}
use Rattle.giving.specs.Lists.{SeatRule, times}
use Rattle.order.specs.declared.operation.Paired.{Paired}
use Rattle.calls.specs.declared.fault.DocketFault.{DocketFault}
use Rattle.calls.specs.declared.fault.DocketFault.TheVariants.{NothingToLift, StepsMissing, BufferTooShort}
use Rattle.calls.specs.declared.certificate.Certificate.{Certificate}
use Rattle.calls.specs.Faults.{code_of}
use Rattle.calls.specs.Rules.{Buffers}
use Rattle.calls.specs.Calls.{Call, place, run, lift, certify, Answer, to_place, to_run, to_lift, to_certify}
use Rattle.calls.specs.Meanings.{Accepted, Refused, InTurn, Granted}

-- on the steps p, the call is answered so and leaves these steps
pub data IsAnswered (seat : SeatRule) (ops : List Paired) (k : ℕ) (p : List ℕ) : Call → Answer → List ℕ → Type 0 where
  -- a step that is acceptable joins the end, and its rank error is answered
  placed : (x r : ℕ) → Accepted seat ops k p x r → IsAnswered seat ops k p (place x) (to_place (Ok r)) (p ++ (x ∷ []))
  -- a step that breaks a rule is refused by the first that it breaks, and nothing changes
  refused : (x : ℕ) (e : DocketFault) → Refused seat ops k p x e → IsAnswered seat ops k p (place x) (to_place (Err e)) p
  -- a run places every number where each may come next in turn
  ran : (xs : List ℕ) → InTurn seat ops k p xs → IsAnswered seat ops k p (run xs) (to_run (length xs) (code_of None)) (p ++ xs)
  -- and else those before the first that is refused
  ran_until : (us : List ℕ) (x : ℕ) (vs : List ℕ) (e : DocketFault) → InTurn seat ops k p us → Refused seat ops k (p ++ us) x e
      → IsAnswered seat ops k p (run (us ++ (x ∷ vs))) (to_run (length us) (code_of (Some e))) (p ++ us)
  -- a lift takes back the last step
  lifted : (q : List ℕ) (x : ℕ) → p ≡ q ++ (x ∷ []) → IsAnswered seat ops k p lift (to_lift (Ok x)) q
  not_lifted : p ≡ [] → IsAnswered seat ops k p lift (to_lift (Err NothingToLift)) p
  -- a certificate is granted, with what is written
  granted : (b w : Buffers) (c : Certificate) → Granted seat ops k p b c w → IsAnswered seat ops k p (certify b) (to_certify (Ok c) w) p
  -- refused while an operation is not placed, naming the lowest
  steps_missing : (b : Buffers) (a : ℕ) → a < length ops → times a p ≡ 0 → ((c : ℕ) → c < a → 0 < times c p)
      → IsAnswered seat ops k p (certify b) (to_certify (Err (StepsMissing (length p) a)) b) p
  -- refused, with every operation placed, where a buffer is too short
  buffer_short : (b : Buffers) → ((c : ℕ) → c < length ops → 0 < times c p)
      → (length b.ranks < length ops) ⊎ ((length b.instants < length ops) ⊎ (length b.latenesses < length ops))
      → IsAnswered seat ops k p (certify b) (to_certify (Err (BufferTooShort (length ops))) b) p

-- from the steps p on the calls are answered so, one after another, and leave the steps q
pub data Session (seat : SeatRule) (ops : List Paired) (k : ℕ) : List ℕ → List Call → List Answer → List ℕ → Type 0 where
  ended : (p : List ℕ) → Session seat ops k p [] [] p
  next : {p : List ℕ} {c : Call} {a : Answer} {m : List ℕ} {cs : List Call} {more : List Answer} {q : List ℕ}
      → IsAnswered seat ops k p c a m → Session seat ops k m cs more q → Session seat ops k p (c ∷ cs) (a ∷ more) q
