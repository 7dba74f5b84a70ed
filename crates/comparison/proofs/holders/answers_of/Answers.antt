use Rattle.std.proofs.Common.{◌∙◌, ◌++◌, ap, sym, codes}
use Rattle.holder.specs.Meanings.{meaning}
use Rattle.turns.specs.Calls.{call_answer, after}
use Rattle.text.specs.Contents.{content, with_words}
use Rattle.text.proofs.Contents.{nothing_said}
use Rattle.comparison.specs.Calls.{holder_calls}
use Rattle.comparison.specs.Words.{words_of_holder}
use Rattle.comparison.specs.Cases.{words_of_calls}
use Rattle.comparison.proofs.Sayings.{left_to_say}
use Rattle.comparison.proofs.holders.answers_of.Goals as goal

pub loop-call-preserved : goal.loop-call-preserved
loop-call-preserved g c =
    let seat = g.H.Holder.seat in
    let m = meaning (g.H.Holder.giving c.loop-call.holder) (g.H.Holder.adds c.loop-call.holder) in
    let call = c.in-Some.call in
    let calls = holder_calls c.next.new.self.0.now in
    let rest = words_of_calls seat (after seat m call) calls in (
      tt,
      tt,
      ap (λ l. with_words (words_of_calls seat l calls) (content c.holder_words.new.text)) c.answer_to-answer.ensures.left
          ∙ left_to_say (words_of_holder c.answer_to-answer.result) rest _ c.holder_words.ensures
          ∙ ap (λ a. with_words (words_of_holder a ++ rest) (content c.say-in-loop-call.new.self)) c.answer_to-answer.ensures.answer
          ∙ left_to_say (codes " ") (words_of_holder (call_answer m call) ++ rest) _ c.say-in-loop-call.ensures.content
          ∙ ap (λ l. with_words (words_of_calls seat m l) (content c.loop-call.text)) (sym c.in-Some.ensures.steps)
          ∙ c.loop-call.invariant.2,
    )

pub returns : goal.returns
returns g c =
    let m = meaning (g.H.Holder.giving c.loop-call.holder) (g.H.Holder.adds c.loop-call.holder) in
    sym (nothing_said (content c.loop-call.text))
    ∙ ap (λ l. with_words (words_of_calls g.H.Holder.seat m l) (content c.loop-call.text)) (sym c.in-None.ensures.steps.0)
    ∙ c.loop-call.invariant.2
