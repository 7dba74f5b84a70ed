use Rattle.std.proofs.Common.{◌≡◌, ℕ, ◌≤◌, ◌++◌, map, get_or, take, drop}
use Rattle.std.specs.List.{AllZip}
use Rattle.docket.specs.declared.slot.Slot.{Slot}
use Rattle.calls.specs.Calls.{answers_for, placed_by}
use Rattle.docket.specs.InAgreement.{ops_of, steps_of}
use Rattle.docket.specs.Slots.{Keeps, call_of, reply_of}
use Rattle.docket.proofs.answer_calls.answer_each.Given as goal

abbrev pub invariant-loop-slot : goal.invariant-loop-slot
invariant-loop-slot g l =
    (ops_of l.docket.ledger ≡ ops_of l.initial.docket.ledger)
    × (l.docket.ledger.k ≡ l.initial.docket.ledger.k)
    × AllZip Keeps (take l.slot-index l.initial.slots) (take l.slot-index l.slots)
    × ((k : ℕ) (d : Slot) → l.slot-index ≤ k → get_or l.slots k d ≡ get_or l.initial.slots k d)
    × (map reply_of (take l.slot-index l.slots) ++ answers_for g.H.Holder.seat (ops_of l.docket.ledger) l.docket.ledger.k (steps_of l.docket.ledger) (map call_of (drop l.slot-index l.initial.slots)) ≡ answers_for g.H.Holder.seat (ops_of l.initial.docket.ledger) l.initial.docket.ledger.k (steps_of l.initial.docket.ledger) (map call_of l.initial.slots))
    × (placed_by g.H.Holder.seat (ops_of l.docket.ledger) l.docket.ledger.k (steps_of l.docket.ledger) (map call_of (drop l.slot-index l.initial.slots)) ≡ placed_by g.H.Holder.seat (ops_of l.initial.docket.ledger) l.initial.docket.ledger.k (steps_of l.initial.docket.ledger) (map call_of l.initial.slots))
