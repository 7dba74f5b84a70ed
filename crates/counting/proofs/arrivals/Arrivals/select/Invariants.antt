use Rattle.std.proofs.Common.{◌≡◌, ◌+◌, ◌<◌, ◌≤◌}
use Rattle.counting.specs.Blocks.{block, used_upto}
use Rattle.counting.proofs.arrivals.Arrivals.select.Given as goal

abbrev pub invariant-loop-width : goal.invariant-loop-width
invariant-loop-width l =
    (used_upto l.self.slots l.at + l.rest ≡ l.rank) × (l.rank < used_upto l.self.slots (l.at + l.width))
    × (l.at + l.width ≤ 1024) × (0 < l.width) × (block l.width ≡ l.width) × (l.width ≤ block l.at)

abbrev pub decreases-loop-width : goal.decreases-loop-width
decreases-loop-width l = l.width
