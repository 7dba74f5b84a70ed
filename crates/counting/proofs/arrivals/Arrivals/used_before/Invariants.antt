use Rattle.std.proofs.Common.{◌≡◌, ◌+◌, ◌≤◌}
use Rattle.counting.specs.Blocks.{used_upto}
use Rattle.counting.proofs.arrivals.Arrivals.used_before.Given as goal

abbrev pub invariant-loop-at : goal.invariant-loop-at
invariant-loop-at l = (l.at ≤ 1024) × (l.sum + used_upto l.self.slots l.at ≡ used_upto l.self.slots l.n)

abbrev pub decreases-loop-at : goal.decreases-loop-at
decreases-loop-at l = l.at
