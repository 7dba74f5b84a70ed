use Rattle.std.proofs.Common.{take}
use Rattle.std.specs.List.{AllByRecursion}
use Rattle.trace.proofs.Writes.{RowsWritten}
use Rattle.trace.proofs.write.put_rows.Given as goal

abbrev pub invariant-loop-i : goal.invariant-loop-i
invariant-loop-i g l = record {
  written : RowsWritten g.T.Row.bytes g.row.W l.at l.initial.out l.rows l.out l.i;
  fit : AllByRecursion g.T.Row.fit (take l.i l.rows);
}
