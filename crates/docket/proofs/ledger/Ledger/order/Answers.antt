use Rattle.std.proofs.Common.{refl, arith}
use Rattle.std.proofs.lemmas.List.{length-take-le}
use Rattle.docket.proofs.ledger.Ledger.order.Goals as goal

pub returns : goal.returns
returns c = record { steps = refl; long = length-take-le c.args.self.now.placed c.args.self.now.steps (omega arith) }
