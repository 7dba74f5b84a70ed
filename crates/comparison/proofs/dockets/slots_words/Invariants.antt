use Rattle.std.proofs.Common.{◌≡◌, map, drop}
use Rattle.docket.specs.Slots.{reply_of}
use Rattle.text.specs.Contents.{content, with_words}
use Rattle.comparison.specs.Cases.{words_of_answers}
use Rattle.comparison.proofs.dockets.slots_words.Given as goal

abbrev pub invariant-loop-slot : goal.invariant-loop-slot
invariant-loop-slot l = with_words (words_of_answers (map reply_of (drop l.slot-index l.slots))) (content l.text) ≡ with_words (words_of_answers (map reply_of l.slots)) (content l.initial.text)
