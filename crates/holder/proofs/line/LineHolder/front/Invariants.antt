use Rattle.std.proofs.Common.{◌≡◌, ◌++◌, take, drop}
use Rattle.holder.specs.Rows.{row_list}
use Rattle.holder.proofs.line.LineHolder.front.Given as goal

abbrev pub invariant-loop-i : goal.invariant-loop-i
invariant-loop-i g l = l.code-items ≡ take l.i (g.E.End.given (row_list l.self.row)) ++ drop l.i l.initial.code-items
