use Rattle.std.proofs.Common.{◌≡◌, ◌+◌, ◌-◌, length}
use Rattle.counting.specs.Blocks.{worth}
use Rattle.counting.proofs.BlocksWithPosition.{ChangedUpTo}
use Rattle.counting.proofs.blocks.Change.apply.Given as goal

abbrev pub invariant-loop-p : goal.invariant-loop-p
invariant-loop-p l = (length l.sums ≡ 1025) × ChangedUpTo (l.self.slot.number + 1) (worth l.self.before) (worth l.self.after) l.p l.initial.sums l.sums

abbrev pub decreases-loop-p : goal.decreases-loop-p
decreases-loop-p l = 1024 + 1 - l.p
