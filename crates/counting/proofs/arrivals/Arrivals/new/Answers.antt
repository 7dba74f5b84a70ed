use Rattle.counting.specs.Sums.{sums_free}
use Rattle.counting.proofs.arrivals.Arrivals.new.Goals as goal

pub invariant_of-result-clause-right : goal.invariant_of-result-clause-right
invariant_of-result-clause-right c = sums_free
