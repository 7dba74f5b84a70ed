use Rattle.std.proofs.Common.{refl, arith}
use Rattle.std.proofs.lemmas.List.{length-take-le}
use Rattle.docket.proofs.ledger.Ledger.table.Goals as goal

pub returns : goal.returns
returns c = record { entries = refl; long = length-take-le c.args.self.now.count c.args.self.now.entries (omega arith) }
