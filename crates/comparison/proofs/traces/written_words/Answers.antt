use Rattle.std.proofs.Common.{append-nil}
use Rattle.text.proofs.Contents.{then_said}
use Rattle.comparison.proofs.traces.written_words.Goals as goal

pub returns-in-Err : goal.returns-in-Err
returns-in-Err c =
    rw (c.in-Err.is, ← c.from.ensures)
    (simp append-nil at (then_said _ _ _ (then_said _ _ _ c.say-in-Err.ensures.content c.say_refusal.ensures.said) c.say-in-Err-2.ensures.content))
