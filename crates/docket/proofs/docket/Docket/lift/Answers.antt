use Rattle.std.proofs.Common.{◌<◌, refl, ◌∙◌, arith, rules}
use Rattle.docket.specs.Moves.{one_less}
use Rattle.docket.proofs.Table.{flags_kept}
use Rattle.docket.proofs.Awaiting.{awaits_late}
use Rattle.docket.proofs.Lifting.{lift_none, lift_none_left, lift_last, lifted_ops, lifted_steps, lifted_agrees}
use Rattle.docket.proofs.docket.Docket.lift.Goals as goal

pub returns-then-self-eq0 : goal.returns-then-self-eq0
returns-then-self-eq0 g c =
    let z = c.if-self-eq0.true in
    record {
      answer = lift_none c.args.self.now.ledger z;
      steps = lift_none_left c.args.self.now.ledger z;
      table = refl;
      bound = refl;
      refused = (λ e. refl);
    }

pub invariant_of-self : goal.invariant_of-self
invariant_of-self g c =
    let u = c.remove_last_step-last.new.self in
    let lowered = c.change_latenesses.ensures one_less (λ n r h. search rules) in
    ((c.change_latenesses.auto.entries ∙ u.lengths.0, u.lengths.1), (u.counts_fit, (u.known, (u.once, (flags_kept one_less u _ _ lowered, (awaits_late one_less u _ _ lowered, tt))))))

pub invariant_of-self-2 : goal.invariant_of-self-2
invariant_of-self-2 g c =
    let l = c.args.self.now.ledger in
    let e = c.remove_last_step-last.ensures in
    let pos : 0 < l.placed = omega (arith, c.if-self-eq0.false) in
    let lowered = c.change_latenesses.ensures one_less (λ n r h. search rules) in
    record { agreed = lifted_agrees g.H.Holder.seat l c.remove_last_step-last.new.self _ pos e.operation e.entries e.steps e.placed e.count _ _ _ _ e.rank lowered refl refl refl c.replay.ensures _ _ c.args.self.now.agreed }

pub returns-clause-answer : goal.returns-clause-answer
returns-clause-answer g c = lift_last c.args.self.now.ledger (omega (arith, c.if-self-eq0.false)) c.remove_last_step-last.result.operation c.remove_last_step-last.ensures.operation

pub returns-clause-steps : goal.returns-clause-steps
returns-clause-steps g c =
    let e = c.remove_last_step-last.ensures in
    lifted_steps g.H.Holder.seat c.args.self.now.ledger c.remove_last_step-last.new.self _ (omega (arith, c.if-self-eq0.false)) e.operation e.entries e.steps e.placed e.count

pub returns-clause-table : goal.returns-clause-table
returns-clause-table g c =
    let l = c.args.self.now.ledger in
    let e = c.remove_last_step-last.ensures in
    let pos : 0 < l.placed = omega (arith, c.if-self-eq0.false) in
    let lowered = c.change_latenesses.ensures one_less (λ n r h. search rules) in
    lifted_ops g.H.Holder.seat l c.remove_last_step-last.new.self _ pos e.operation e.entries e.steps e.placed e.count _ _ lowered

pub returns-clause-bound : goal.returns-clause-bound
returns-clause-bound g c = c.remove_last_step-last.ensures.bound

pub returns-clause-refused : goal.returns-clause-refused
returns-clause-refused g c = λ e. absurd (cc)
