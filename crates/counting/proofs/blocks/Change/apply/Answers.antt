use Rattle.std.proofs.Common.{◌+◌, ◌-◌, get_or, arith, length-set}
use Rattle.counting.specs.Blocks.{block, worth}
use Rattle.counting.specs.Sums.{counted_from_on, counted_from_off}
use Rattle.counting.proofs.BlocksWithPosition.{changed_none, changed_more}
use Rattle.counting.proofs.blocks.Change.apply.Goals as goal

pub loop-p-init : goal.loop-p-init
loop-p-init c =
    let change = c.args.self.now in
    (omega arith, changed_none (change.slot.number + 1) (worth change.before) (worth change.after) c.args.sums.now (omega arith) (omega arith))

pub loop-p-preserved : goal.loop-p-preserved
loop-p-preserved c =
    let q = c.args.self.now.slot.number + 1 in
    let less = worth c.args.self.now.before in
    let more = worth c.args.self.now.after in
    let p = c.loop-p.p in
    let i = c.loop-p.invariant.1 in
    let on = counted_from_on q less p i.past in
    let off = counted_from_off q less (p - block p) i.has in
    let read = i.rest p (omega arith) in
    let enough = c.requires.enough p (omega arith) (omega arith) in (
      simp length-set c.loop-p.invariant.0,
      rw c.block_len-p.ensures.value (changed_more q less more p (get_or c.loop-p.sums p 0 + c.counted-more.result - c.counted-less.result) c.args.sums.now c.loop-p.sums (omega arith) c.loop-p-test.true (omega arith) (omega arith) i),
    )
