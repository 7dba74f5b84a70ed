use Rattle.std.proofs.Common.{ℕ, take, ap, subst, sym}
use Rattle.giving.specs.Lists.{Below}
use Rattle.docket.specs.Moves.{with_late, changed_all}
use Rattle.docket.proofs.Fronts.{below_take}
use Rattle.docket.proofs.docket.parts.change_latenesses.Goals as goal

pub returns-then-passed-eq0 : goal.returns-then-passed-eq0
unfolding changed_all
returns-then-passed-eq0 g c = λ f h. sym (ap (λ (n : ℕ). changed_all (with_late f) c.args.entries.now (take n (g.H.Holder.giving c.args.holder.now))) c.if-passed-eq0.true)

pub change_each-requires-clause-below : goal.change_each-requires-clause-below
change_each-requires-clause-below g c = subst (Below 1024) (sym c.first_codes.ensures) (below_take 1024 _ (g.H.Holder.giving c.args.holder.now) (g.met.H.Holder.sound c.args.holder.now).below)
