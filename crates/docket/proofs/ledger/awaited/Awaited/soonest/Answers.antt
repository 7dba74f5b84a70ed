use Rattle.std.proofs.Common.{refl}
use Rattle.docket.proofs.ledger.awaited.Awaited.soonest.Goals as goal

pub returns : goal.returns
returns c = refl
