use Rattle.std.proofs.Common.{◌≡◌, true, List, take, ap, ◌∙◌, arith, rules}
use Rattle.std.proofs.lemmas.Result.{err_from_is_err_and}
use Rattle.docket.specs.declared.entry.Entry.{Entry}
use Rattle.docket.specs.Moves.{with_late, one_more, with_flag, changed_at, changed_all}
use Rattle.docket.proofs.Table.{flag_kept, flags_kept}
use Rattle.docket.proofs.Awaiting.{awaits_late}
use Rattle.docket.proofs.Judged.{judged_ok}
use Rattle.docket.proofs.Placing.{judged_is, judged_rank_is, placed_ops, placed_agrees}
use Rattle.docket.proofs.docket.Docket.place.Goals as goal
use Rattle.docket.proofs.docket.Docket.place.Goals.{After-change_latenesses, After-add_step}

-- the latenesses raised, and then the flag set
raised : (g : _) (c : After-change_latenesses g) → c.change_latenesses.new.entries ≡ changed_all (with_late one_more) c.args.self.now.ledger.entries (take c.in_ok-rank.rank (g.H.Holder.giving c.args.self.now.holder))
raised g c = c.change_latenesses.ensures one_more (λ n r h. search rules)

flagged : (g : _) (c : After-add_step g) → c.add_step.new.self.entries ≡ changed_at (with_flag true) (changed_all (with_late one_more) c.args.self.now.ledger.entries (take c.in_ok-rank.rank (g.H.Holder.giving c.args.self.now.holder))) c.args.operation
flagged g c = c.add_step.ensures.entries ∙ ap (λ (v : List Entry). changed_at (with_flag true) v c.args.operation) (c.change_latenesses.ensures one_more (λ n r h. search rules))

pub returns-in_err-rank-clause-answer : goal.returns-in_err-rank-clause-answer
returns-in_err-rank-clause-answer g c =
    let p = err_from_is_err_and c.from_residual.result c.from_residual.ensures.1 in
    rw (p.1, p.2) (c.in_err-rank.ensures ∙ judged_is g.H.Holder.seat c.args.self.now.ledger _ _ c.args.operation c.args.self.now.agreed)

pub bounds-self-operation : goal.bounds-self-operation
bounds-self-operation g c = let o = judged_ok _ _ _ _ _ _ _ c.in_ok-rank.rank c.in_ok-rank.ensures in omega (arith, o.0)

pub invariant_of-self : goal.invariant_of-self
invariant_of-self g c =
    let l = c.args.self.now.ledger in
    let up = raised g (goal.at.invariant_of-self g c).After-change_latenesses in
    ((c.change_latenesses.auto.entries ∙ l.lengths.0, l.lengths.1), (l.counts_fit, (l.known, (l.once, (flags_kept one_more l _ _ up, (awaits_late one_more l _ _ up, tt))))))

pub add_step-requires : goal.add_step-requires
add_step-requires g c =
    let l = c.args.self.now.ledger in
    let o = judged_ok _ _ _ _ _ _ _ c.in_ok-rank.rank c.in_ok-rank.ensures in
    let up = raised g (goal.at.add_step-requires g c).After-change_latenesses in
    record { within = o.0; new = flag_kept one_more l.entries c.change_latenesses.new.entries _ c.args.operation up ∙ o.1 }

pub invariant_of-self-2 : goal.invariant_of-self-2
invariant_of-self-2 g c =
    let l = c.args.self.now.ledger in
    let L = g.H.Holder.giving c.args.self.now.holder in
    let r = c.in_ok-rank.rank in
    let o = judged_ok _ _ _ _ _ _ _ r c.in_ok-rank.ensures in
    let es = flagged g (goal.at.invariant_of-self-2 g c).After-add_step in
    let e = c.add_step.ensures in
    record { agreed = placed_agrees g.H.Holder.seat l c.add_step.new.self L c.args.operation r o.0 o.1 es e.steps e.ranks e.placed e.count _ _ _ c.args.self.now.agreed (judged_rank_is _ _ _ _ _ _ _ L r o.0 o.1 c.in_ok-rank.ensures) c.step.ensures }

pub returns-clause-answer : goal.returns-clause-answer
returns-clause-answer g c = c.in_ok-rank.ensures ∙ judged_is g.H.Holder.seat c.args.self.now.ledger _ _ c.args.operation c.args.self.now.agreed

pub returns-clause-table : goal.returns-clause-table
returns-clause-table g c =
    let r = c.in_ok-rank.rank in
    let o = judged_ok _ _ _ _ _ _ _ r c.in_ok-rank.ensures in
    let es = flagged g (goal.at.returns-clause-table g c).After-add_step in
    let e = c.add_step.ensures in
    placed_ops g.H.Holder.seat c.args.self.now.ledger c.add_step.new.self (g.H.Holder.giving c.args.self.now.holder) c.args.operation r o.0 o.1 es e.steps e.ranks e.placed e.count
