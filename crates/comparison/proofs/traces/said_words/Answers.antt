use Rattle.std.proofs.Common.{append-nil}
use Rattle.comparison.specs.Words.{words_of_said}
use Rattle.comparison.proofs.traces.said_words.Goals as goal

pub returns-in-Ok : goal.returns-in-Ok
unfolding words_of_said
returns-in-Ok c = rw (c.in-Ok.is, ← c.from.ensures, ← c.from-in-Ok.ensures, ← c.from-in-Ok-2.ensures) (simp append-nil at c.say.ensures.content)
