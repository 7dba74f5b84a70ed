use Rattle.std.proofs.Common.{refl}
use Rattle.docket.proofs.docket.Docket.close.Goals as goal

pub returns : goal.returns
returns g c = refl
