use Rattle.std.proofs.Common.{append-nil}
use Rattle.text.proofs.Contents.{then_said}
use Rattle.comparison.specs.Words.{words_of_reading}
use Rattle.comparison.proofs.traces.reading_words.Goals as goal

pub returns-clause-words : goal.returns-clause-words
unfolding words_of_reading
returns-clause-words g c =
    rw (← c.read.ensures.answer, ← c.read.ensures.entered, ← c.count.ensures, ← c.sheet_hash.ensures)
    (simp append-nil at (then_said _ _ _ c.said_words.ensures c.say.ensures.content))
