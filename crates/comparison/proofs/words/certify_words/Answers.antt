use Rattle.std.proofs.Common.{append-nil}
use Rattle.comparison.specs.Words.{words_of_certify}
use Rattle.text.proofs.Contents.{then_said}
use Rattle.comparison.proofs.words.certify_words.Goals as goal

pub returns-in-Err : goal.returns-in-Err
unfolding words_of_certify
returns-in-Err c = rw (c.in-Err.is, ← c.from-in-Err.ensures) (simp append-nil at (then_said _ _ _ c.say_refusal.ensures.said c.say-in-Err.ensures.content))
