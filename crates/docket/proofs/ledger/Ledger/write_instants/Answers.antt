use Rattle.std.proofs.Common.{◌≡◌, ℕ, ◌+◌, ◌<◌, max, get_or, take, sym, ap, ◌∙◌, arith}
use Rattle.std.proofs.lemmas.List.{take_more, length-take-le}
use Rattle.order.specs.declared.operation.Paired.{Paired}
use Rattle.order.specs.Steps.{operation}
use Rattle.docket.specs.Kept.{entry_of}
use Rattle.docket.specs.InAgreement.{ops_of, steps_of}
use Rattle.order.proofs.Earliest.{length_earliest, largest_start, largest_start_push, earliest_push}
use Rattle.order.specs.Times.{earliest}
use Rattle.docket.proofs.Placing.{no_step, long_steps, order_at, order_known, op_is}
use Rattle.docket.proofs.Fronts.{over_more}
use Rattle.docket.proofs.ledger.Ledger.write_instants.Goals as goal

pub bounds-self-step : goal.bounds-self-step
bounds-self-step c = omega (arith, order_known c.args.self.now c.order-order.result.now c.order-order.ensures.steps c.loop-i.i (omega arith))

pub loop-i-preserved : goal.loop-i-preserved
loop-i-preserved c =
    let l = c.args.self.now in
    let i = c.loop-i.i in
    let order = c.order-order.result.now in
    let im : i < l.placed = omega arith in
    let x = (get_or order i no_step).operation in
    let y = get_or (steps_of l) i 0 in
    let e = order_at l order c.order-order.ensures.steps i im in
    let yn : y < l.count = omega (arith, e, order_known l order c.order-order.ensures.steps i im) in
    let ops = ops_of l in
    let p = take i (steps_of l) in
    let long = long_steps l in
    let more = take_more (steps_of l) i 0 (omega arith) in
    let start : (entry_of l.entries x).paired.start ≡ (operation ops y).start = ap (λ (v : ℕ). (entry_of l.entries v).paired.start) e ∙ sym (ap (λ (o : Paired). o.start) (op_is l y yn)) in
    let is : c.max-last.result ≡ max (largest_start ops 0 p) (operation ops y).start = c.max-last.ensures ∙ ap (λ (v : ℕ). max v (entry_of l.entries x).paired.start) c.loop-i.invariant.1 ∙ ap (max (largest_start ops 0 p)) start in (
      over_more (earliest ops p) (earliest ops (take (i + 1) (steps_of l))) c.args.buffer.now c.loop-i.buffer i _ _
          (length_earliest ops 0 p ∙ length-take-le i (steps_of l) (omega arith)) (omega arith) (ap (earliest ops) more ∙ earliest_push ops 0 p y) is c.loop-i.invariant.0,
      is ∙ sym (ap (largest_start ops 0) more ∙ largest_start_push ops 0 p y),
    )
