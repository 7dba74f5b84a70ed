use Rattle.std.proofs.Common.{rules}
use Rattle.comparison.specs.Hashes.{hashed}
use Rattle.comparison.proofs.hash.hash_on.Goals as goal

pub returns : goal.returns
unfolding hashed
returns c = search rules
