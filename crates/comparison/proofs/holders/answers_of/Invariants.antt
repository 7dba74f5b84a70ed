use Rattle.std.proofs.Common.{◌≡◌, ◌++◌, codes}
use Rattle.holder.specs.Meanings.{meaning}
use Rattle.text.specs.Contents.{content, with_words}
use Rattle.comparison.specs.Calls.{holder_calls}
use Rattle.comparison.specs.Cases.{words_of_calls}
use Rattle.comparison.proofs.holders.answers_of.Given as goal

abbrev pub invariant-loop-call : goal.invariant-loop-call
invariant-loop-call g l =
    (goal.iterator-loop-call g).can_next l.call-iterator
    × (goal.iterator-loop-call g).is_finite l.call-iterator
    × (with_words (words_of_calls g.H.Holder.seat (meaning (g.H.Holder.giving l.holder) (g.H.Holder.adds l.holder)) (holder_calls l.call-iterator.0.now)) (content l.text)
    ≡ with_words (codes "holder" ++ words_of_calls g.H.Holder.seat (meaning (g.H.Holder.giving l.fn.holder) (g.H.Holder.adds l.fn.holder)) (holder_calls l.fn.calls)) (content l.fn.text))
