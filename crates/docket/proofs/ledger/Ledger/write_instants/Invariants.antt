use Rattle.std.proofs.Common.{◌≡◌, take}
use Rattle.giving.specs.Fronts.{over}
use Rattle.docket.specs.InAgreement.{ops_of, steps_of}
use Rattle.order.specs.Times.{earliest}
use Rattle.order.proofs.Earliest.{largest_start}
use Rattle.docket.proofs.ledger.Ledger.write_instants.Given as goal

abbrev pub invariant-loop-i : goal.invariant-loop-i
invariant-loop-i l =
    (l.buffer ≡ over (earliest (ops_of l.self) (take l.i (steps_of l.self))) l.initial.buffer)
    × (l.last ≡ largest_start (ops_of l.self) 0 (take l.i (steps_of l.self)))
