use Rattle.std.proofs.Common.{◌≡◌, ◌-◌, take, sym, subst}
use Rattle.std.specs.List.{remove}
use Rattle.giving.specs.Lists.{Once, Below}
use Rattle.giving.proofs.Counts.{times_removed, once_fewer, below_fewer}
use Rattle.holder.specs.Rows.{row_list}
use Rattle.holder.proofs.Rows.{row_removed}
use Rattle.holder.proofs.row.Row.remove.Goals as goal
use Rattle.holder.proofs.row.Row.remove.Goals.{After-copy_within}

-- the codes that are left
left : (c : After-copy_within) → take (c.args.self.now.len - 1) c.copy_within.new.self ≡ remove (row_list c.args.self.now) c.args.i
left c = row_removed c.args.self.now c.copy_within.new.self c.args.i c.requires c.copy_within.ensures.after

pub invariant_of-self-clause-once : goal.invariant_of-self-clause-once
invariant_of-self-clause-once c =
    let r = c.args.self.now in
    subst Once (sym (left (goal.at.invariant_of-self-clause-once c).After-copy_within)) (once_fewer (row_list r) (remove (row_list r) c.args.i) (λ a. times_removed a c.args.i (row_list r)) r.once)

pub invariant_of-self-clause-below : goal.invariant_of-self-clause-below
invariant_of-self-clause-below c =
    let r = c.args.self.now in
    subst (Below 1024) (sym (left (goal.at.invariant_of-self-clause-below c).After-copy_within)) (below_fewer 1024 (row_list r) (remove (row_list r) c.args.i) (λ a. times_removed a c.args.i (row_list r)) r.below)

pub returns-clause-list : goal.returns-clause-list
returns-clause-list c = left (goal.at.returns-clause-list c).After-copy_within
