use Rattle.std.proofs.Common.{◌≡◌, Some, None, get_or, sym, ap, ◌∙◌, arith, length-set, rules}
use Rattle.counting.specs.Slots.{codes}
use Rattle.counting.specs.Codes.{codes_without, within}
use Rattle.counting.proofs.Kept.{kept_take}
use Rattle.counting.proofs.Held.{held_at}
use Rattle.counting.proofs.queue.CountingQueueHolder.take.Goals as goal

pub invariant_of-self : goal.invariant_of-self
invariant_of-self c =
    let q = c.args.self.now in
    let slot = c.in_ok-slot.slot in
    let p : get_or q.positions c.args.code None ≡ Some slot = sym c.position.ensures ∙ c.in_ok-slot.ensures.ok_part in
    let h = held_at q c.args.code slot p in
    let kept =
    kept_take q.arrivals.slots q.positions q.added slot c.args.code (omega arith) (within q.positions c.args.code slot p) q.free q.placed q.back p h.slot c.put.new.self.slots c.put.ensures in
    record {
      long = simp length-set q.long;
      few = q.few;
      free = kept.0;
      placed = kept.1;
      back = kept.2;
    }

pub returns-clause-answer : goal.returns-clause-answer
returns-clause-answer c = let h = held_at c.args.self.now c.args.code c.in_ok-slot.slot (sym c.position.ensures ∙ c.in_ok-slot.ensures.ok_part) in search rules

pub returns-clause-list : goal.returns-clause-list
returns-clause-list c =
    let q = c.args.self.now in
    let slot = c.in_ok-slot.slot in
    let h = held_at q c.args.code slot (sym c.position.ensures ∙ c.in_ok-slot.ensures.ok_part) in
    ap codes c.put.ensures ∙ codes_without q.arrivals.slots q.positions c.args.code slot.number q.placed h.slot
