use Rattle.counting.specs.Sums.{sum_le, sum_enough, sums_set}
use Rattle.counting.proofs.arrivals.Arrivals.put.Goals as goal

pub apply-requires-clause-room : goal.apply-requires-clause-room
apply-requires-clause-room c = let r = c.args.self.now in sum_le r.sums r.slots r.right

pub apply-requires-clause-enough : goal.apply-requires-clause-enough
apply-requires-clause-enough c =
    let r = c.args.self.now in
    rw c.replace-before.ensures.value (sum_enough r.sums r.slots c.args.slot.number r.slotted r.right)

pub invariant_of-self-clause-right : goal.invariant_of-self-clause-right
invariant_of-self-clause-right c =
    let r = c.args.self.now in
    let changed = rw c.replace-before.ensures.value at c.apply.ensures.changed in
    rw c.replace-before.ensures.after (sums_set r.sums c.apply.new.sums r.slots c.args.slot.number c.args.code r.slotted r.right changed)
