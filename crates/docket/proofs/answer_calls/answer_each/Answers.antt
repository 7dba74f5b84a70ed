use Rattle.std.proofs.Common.{get_or, ◌∙◌, arith}
use Rattle.std.proofs.lemmas.List.{get_or-set_other}
use Rattle.docket.proofs.AnsweredSlots.{kept_more, answers_more, steps_more}
use Rattle.docket.proofs.answer_calls.answer_each.Goals as goal

pub loop-slot-preserved : goal.loop-slot-preserved
loop-slot-preserved g c =
    let seat = g.H.Holder.seat in
    let v = c.loop-slot.invariant in
    let e = c.fill.ensures in
    let l = c.loop-slot.docket.ledger in
    let m = c.fill.new.docket.ledger in
    let d = c.slot-item.result in
    let j = c.loop-slot.slot-index in
    let y = get_or c.loop-slot.slots j d in
    let is = v.3 j d (omega arith) in (
      e.table ∙ v.0,
      e.bound ∙ v.1,
      kept_more c.args.slots.now c.loop-slot.slots j y c.fill.new.slot d c.loop-slot-test.true c.loop-slot.auto.slots is e.kept v.2,
      (λ k d h. get_or-set_other c.loop-slot.slots j k c.fill.new.slot d (λ q. omega arith) ∙ v.3 k d (omega arith)),
      answers_more seat l m c.args.slots.now c.loop-slot.slots j y c.fill.new.slot d c.loop-slot-test.true c.loop-slot.auto.slots is e.steps e.table e.bound _ e.answer v.4,
      steps_more seat l m c.args.slots.now c.loop-slot.slots j y c.fill.new.slot d c.loop-slot-test.true c.loop-slot.auto.slots is e.steps e.table e.bound _ v.5,
    )
