use Rattle.std.proofs.Common.{None, replicate}
use Rattle.counting.proofs.Kept.{free_clear, placed_clear, back_clear}
use Rattle.counting.proofs.queue.CountingQueue.new.Goals as goal

pub invariant_of-result-clause-free : goal.invariant_of-result-clause-free
invariant_of-result-clause-free c = λ k h. free_clear c.new.result.slots c.new.ensures k

pub invariant_of-result-clause-placed : goal.invariant_of-result-clause-placed
invariant_of-result-clause-placed c = placed_clear c.new.result.slots (replicate 1024 None) c.new.ensures

pub invariant_of-result-clause-back : goal.invariant_of-result-clause-back
invariant_of-result-clause-back c = back_clear c.new.result.slots
