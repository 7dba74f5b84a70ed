use Rattle.calls.proofs.Law.{the_law}
use Rattle.calls.proofs.laws.calls_keep_the_law.Goals as goal

pub returns : goal.returns
returns c seat ops k calls = the_law seat ops k calls
