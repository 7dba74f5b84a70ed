use Rattle.std.proofs.Common.{◌≡◌, ◌+◌, length, drop}
use Rattle.calls.specs.Rules.{run_of}
use Rattle.docket.specs.InAgreement.{ops_of, steps_of}
use Rattle.docket.proofs.docket.Docket.place_all.Given as goal

abbrev pub invariant-loop-placed : goal.invariant-loop-placed
invariant-loop-placed g l =
    (length (steps_of l.self.ledger) ≡ l.placed + length (steps_of l.initial.self.ledger))
    × (ops_of l.self.ledger ≡ ops_of l.initial.self.ledger)
    × (l.self.ledger.k ≡ l.initial.self.ledger.k)
    × (run_of g.H.Holder.seat (ops_of l.initial.self.ledger) l.initial.self.ledger.k (steps_of l.initial.self.ledger) 0 l.order ≡ run_of g.H.Holder.seat (ops_of l.self.ledger) l.self.ledger.k (steps_of l.self.ledger) l.placed (drop l.placed l.order))
