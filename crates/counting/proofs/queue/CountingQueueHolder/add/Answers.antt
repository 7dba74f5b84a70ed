use Rattle.std.proofs.Common.{◌≡◌, None, get_or, sym, ap, ◌∙◌, arith, length-set}
use Rattle.std.proofs.lemmas.List.Edits.{insert_end}
use Rattle.counting.specs.Slots.{codes}
use Rattle.counting.specs.Codes.{codes_pushed}
use Rattle.counting.proofs.Kept.{kept_add}
use Rattle.counting.proofs.Held.{no_position, slot_number}
use Rattle.counting.proofs.queue.CountingQueueHolder.add.Goals as goal
use Rattle.counting.proofs.queue.CountingQueueHolder.add.Goals.{After-new}

-- the code has no position
free : (c : After-new) → get_or c.args.self.now.positions c.args.code None ≡ None
free c = no_position c.args.self.now c.args.code c.position.result c.is_some.result c.position.ensures c.is_some.ensures c.if-is_some.false

pub invariant_of-self : goal.invariant_of-self
invariant_of-self c =
    let q = c.args.self.now in
    let slot = c.in_ok-slot.slot in
    let n = slot_number q.added c.new.result slot c.new.ensures c.in_ok-slot.ensures.ok_part in
    let kept =
    kept_add q.arrivals.slots q.positions slot c.args.code (omega arith) (omega arith) (omega arith) (rw n q.free) q.placed q.back (free (goal.at.invariant_of-self c).After-new) c.put.new.self.slots c.put.ensures in
    record {
      long = simp length-set q.long;
      few = omega arith;
      free = rw n at kept.0;
      placed = kept.1;
      back = kept.2;
    }

pub returns-clause-list : goal.returns-clause-list
returns-clause-list c =
    let q = c.args.self.now in
    let slot = c.in_ok-slot.slot in
    let n = slot_number q.added c.new.result slot c.new.ensures c.in_ok-slot.ensures.ok_part in
    ap codes c.put.ensures ∙ codes_pushed q.arrivals.slots slot.number c.args.code (omega arith) (rw n q.free) ∙ sym (insert_end (codes q.arrivals.slots) c.args.code)
