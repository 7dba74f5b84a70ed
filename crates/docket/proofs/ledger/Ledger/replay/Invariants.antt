use Rattle.std.proofs.Common.{◌≡◌, [], drop}
use Rattle.holder.specs.Meanings.{meaning}
use Rattle.docket.specs.InAgreement.{steps_of}
use Rattle.docket.specs.Moves.{replayed}
use Rattle.docket.proofs.ledger.Ledger.replay.Given as goal

abbrev pub invariant-loop-placed : goal.invariant-loop-placed
invariant-loop-placed g l =
    replayed g.H.Holder.seat l.self.entries (meaning (g.H.Holder.giving l.holder) (g.H.Holder.adds l.holder)) (drop l.placed-index (steps_of l.self))
    ≡ replayed g.H.Holder.seat l.self.entries (meaning [] 0) (steps_of l.self)
