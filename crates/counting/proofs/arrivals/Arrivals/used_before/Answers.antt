use Rattle.std.proofs.Common.{◌≡◌, ap, arith}
use Rattle.counting.specs.Blocks.{used_upto}
use Rattle.counting.specs.Sums.{used_upto_le, used_upto_none}
use Rattle.counting.proofs.arrivals.Arrivals.used_before.Goals as goal

pub overflow_add-sum : goal.overflow_add-sum
overflow_add-sum c =
    let r = c.args.self.now in
    omega (arith, used_upto_le r.slots c.args.n, r.right c.loop-at.at (omega arith) (omega arith))

pub returns : goal.returns
returns c =
    let r = c.args.self.now in
    let z : c.loop-at.at ≡ 0 = omega arith in
    omega (arith, ap (used_upto r.slots) z, used_upto_none r.slots)
