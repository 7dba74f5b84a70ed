-- A slot as the call in it, and as the answer in it. Assumes nothing.
use Rattle.std.specs.Prelude.{◌≡◌, vec_items}
use Rattle.calls.specs.Rules.{Buffers}
use Rattle.calls.specs.Calls.{Call, Answer, place, run, lift, certify, to_place, to_run, to_lift, to_certify}
use Rattle.docket.specs.declared.slot.Slot.{Slot}
use Rattle.docket.specs.declared.slot.Slot.TheVariants.{Place, Run, Lift, Certify}
use Rattle.docket.specs.Buffers.{owned}

-- the call in a slot
abbrev pub call_of : Slot → Call
call_of (Place x a) = place x
call_of (Run xs n s) = run (vec_items xs)
call_of (Lift a) = lift
call_of (Certify b a) = certify (owned b)

-- the answer that it holds
abbrev pub reply_of : Slot → Answer
reply_of (Place x a) = to_place a
reply_of (Run xs n s) = to_run n s
reply_of (Lift a) = to_lift a
reply_of (Certify b a) = to_certify a (owned b)

-- the call in a slot stays, but for the buffers that a certificate is written into
abbrev pub Keeps : Slot → Slot → Type 0
Keeps (Place x a) z = call_of z ≡ place x
Keeps (Run xs n s) z = call_of z ≡ run (vec_items xs)
Keeps (Lift a) z = call_of z ≡ lift
Keeps (Certify o a) z = (b : Buffers) × (call_of z ≡ certify b)
