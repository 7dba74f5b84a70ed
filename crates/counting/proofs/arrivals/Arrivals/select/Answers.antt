use Rattle.std.proofs.Common.{◌≡◌, ◌+◌, ◌/◌, refl, ap, arith}
use lib.Count.{count_trailing_zeros}
use Rattle.counting.specs.Blocks.{block, used_upto}
use Rattle.counting.specs.Sums.{halved, used_upto_none, used_here, used_upto_one}
use Rattle.counting.proofs.arrivals.Arrivals.select.Goals as goal

pub loop-width-init : goal.loop-width-init
unfolding block count_trailing_zeros
loop-width-init c = let n = used_upto_none c.args.self.now.slots in (omega arith, c.requires, omega arith, omega arith, refl, omega arith)

pub loop-width-preserved-then-sum-rest : goal.loop-width-preserved-then-sum-rest
loop-width-preserved-then-sum-rest c =
    let s = c.args.self.now.slots in
    let at = c.loop-width.at in
    let w = c.loop-width.width in
    let i = c.loop-width.invariant in
    let h = halved c.args.self.now.sums s at w (omega arith) (omega arith) i.4 (omega arith) c.args.self.now.right in
    let two : at + w / 2 + w / 2 ≡ at + w = omega arith in
    let u = ap (used_upto s) two in
    (omega arith, omega arith, omega arith, omega arith, h.1, omega arith)

pub loop-width-preserved : goal.loop-width-preserved
loop-width-preserved c =
    let i = c.loop-width.invariant in
    let h = halved c.args.self.now.sums c.args.self.now.slots c.loop-width.at c.loop-width.width (omega arith) (omega arith) i.4 (omega arith) c.args.self.now.right in
    (omega arith, omega arith, omega arith, omega arith, h.1, omega arith)

pub returns : goal.returns
returns c =
    let s = c.args.self.now.slots in
    let at = c.loop-width.at in
    let one : at + c.loop-width.width ≡ at + 1 = omega arith in
    let u = ap (used_upto s) one in
    let m = used_upto_one s at (omega arith) in
    record { before = omega arith; held = used_here s at (omega arith) (omega arith) }
