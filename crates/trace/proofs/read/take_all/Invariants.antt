use Rattle.std.proofs.Common.{◌≡◌}
use Rattle.sheet.specs.Sheets.{entered, room, SameLoan}
use Rattle.trace.specs.Reading.{records_taken}
use Rattle.trace.specs.Reading.RecordsTaken.{going}
use Rattle.trace.proofs.read.take_all.Given as goal

abbrev pub invariant-loop-place : goal.invariant-loop-place
invariant-loop-place g l = record {
  taken : records_taken g.I.Item (room l.initial.sheet) l.trace.bytes.now l.place ≡ going (entered l.sheet);
  loan : SameLoan l.initial.sheet l.sheet;
}
