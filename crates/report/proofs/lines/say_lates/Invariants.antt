use Rattle.std.proofs.Common.{◌≡◌, ◌≤◌, length, drop}
use Rattle.std.specs.Iterator.Adapters.{enumerate_count, enumerate_source, zip_first, zip_second}
use Rattle.std.specs.Slice.Iter.{iter_rest}
use Rattle.sheet.specs.Sheets.{entered}
use Rattle.text.specs.Contents.{content, with_words}
use Rattle.report.specs.Lines.{up_to, late_at}
use Rattle.report.proofs.lines.say_lates.Given as goal

abbrev pub invariant-loop-number : goal.invariant-loop-number
invariant-loop-number g l = let n = enumerate_count l.number-iterator in let z = enumerate_source l.number-iterator in record {
  operations : iter_rest (zip_first z) ≡ drop n (entered l.sheet);
  latenesses : iter_rest (zip_second z) ≡ drop n l.latenesses;
  within : n ≤ length (entered l.sheet);
  said : content l.text ≡ with_words (up_to n (late_at (entered l.sheet) l.latenesses)) (content l.initial.text);
}
