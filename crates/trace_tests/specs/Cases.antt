-- What the tests' own functions answer.
use Rattle.std.specs.Prelude.{ℕ, Some, None, Option}
use Rattle.refusal.specs.declared.Refusal.{Refusal}
use Rattle.item.specs.declared.ticket.Ticket.{Ticket}
use Rattle.sheet.specs.declared.operation.Method.TheVariants.{Add}
use Rattle.sheet.specs.declared.operation.Operation.{Operation}
use Rattle.frame.specs.Faults.{frame_refusal}
use Rattle.trace.specs.Faults.{entry_refusal}
use Rattle.trace.specs.Reading.{Outcome}
use Rattle.trace.specs.Reading.Outcome.{unread, refused, accepted}

-- the refusal of an outcome that refuses
abbrev pub refusal_in : {I : Type 0} → Outcome I → Option Refusal
refusal_in (unread e) = Some (frame_refusal e)
refusal_in (refused os i e) = Some (entry_refusal i e)
refusal_in (accepted c) = None

-- an operation that adds the ticket of that number
abbrev pub add_of_ticket : ℕ → Operation Ticket
add_of_ticket n = record { method = Add (record { number = n }); thread = 0; start = 0; end = 0 }
