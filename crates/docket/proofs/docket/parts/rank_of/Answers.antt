use Rattle.std.proofs.Common.{Some, sym, ap, ◌∙◌}
use Rattle.order.specs.declared.operation.Deed.{Deed}
use Rattle.calls.specs.Rules.{rank_if_any}
use Rattle.docket.proofs.docket.parts.rank_of.Goals as goal

pub returns-in-Add : goal.returns-in-Add
unfolding rank_if_any
returns-in-Add g c = sym (ap (λ (d : Deed). rank_if_any d (g.H.Holder.giving c.args.holder.now)) c.in-Add.is)

pub returns-in-TakeOfNone : goal.returns-in-TakeOfNone
unfolding rank_if_any
returns-in-TakeOfNone g c = sym (ap (λ (d : Deed). rank_if_any d (g.H.Holder.giving c.args.holder.now)) c.in-TakeOfNone.is)

pub returns-in-FoundEmpty : goal.returns-in-FoundEmpty
unfolding rank_if_any
returns-in-FoundEmpty g c = ap Some c.count.ensures ∙ sym (ap (λ (d : Deed). rank_if_any d (g.H.Holder.giving c.args.holder.now)) c.in-FoundEmpty.is)
