use Rattle.std.proofs.Common.{◌≡◌, ◌≤◌, length, drop}
use Rattle.std.specs.Iterator.Adapters.{enumerate_count, enumerate_source, zip_first, zip_second}
use Rattle.std.specs.Slice.Iter.{iter_rest}
use Rattle.text.specs.Contents.{content, with_words}
use Rattle.report.specs.Lines.{up_to, step_at}
use Rattle.report.proofs.lines.say_steps.Given as goal

abbrev pub invariant-loop-step : goal.invariant-loop-step
invariant-loop-step l = let n = enumerate_count l.step-iterator in let z = enumerate_source l.step-iterator in record {
  order : iter_rest (zip_first (zip_first z)) ≡ drop n l.order;
  ranks : iter_rest (zip_second (zip_first z)) ≡ drop n l.ranks;
  instants : iter_rest (zip_second z) ≡ drop n l.instants;
  within : n ≤ length l.order;
  said : content l.text ≡ with_words (up_to n (step_at l.order l.ranks l.instants)) (content l.initial.text);
}
