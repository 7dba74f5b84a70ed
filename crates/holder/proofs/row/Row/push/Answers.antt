use Rattle.std.proofs.Common.{◌<◌, length, arith}
use Rattle.std.proofs.lemmas.List.{take_more_set}
use Rattle.giving.proofs.Counts.{once_push, below_push}
use Rattle.holder.specs.Rows.{row_list}
use Rattle.holder.proofs.row.Row.push.Goals as goal

pub invariant_of-self-clause-once : goal.invariant_of-self-clause-once
invariant_of-self-clause-once c =
    let r = c.args.self.now in
    let room : r.len < length r.codes = omega arith in
    rw (take_more_set _ _ _ room) (once_push c.args.code (row_list r) c.requires.new r.once)

pub invariant_of-self-clause-below : goal.invariant_of-self-clause-below
invariant_of-self-clause-below c =
    let r = c.args.self.now in
    let room : r.len < length r.codes = omega arith in
    rw (take_more_set _ _ _ room) (below_push 1024 c.args.code (row_list r) c.requires.small r.below)
