use Rattle.std.proofs.Common.{◌≡◌, ◌<◌, ◌+◌, ◌∷◌, length, drop, map, ap, sym, ◌∙◌, arith, add-one, drop-cons}
use Rattle.std.proofs.lemmas.List.{drop_all}
use Rattle.docket.specs.Slots.{reply_of}
use Rattle.text.specs.Contents.{content, with_words}
use Rattle.text.proofs.Contents.{nothing_said, then_said}
use Rattle.comparison.specs.Cases.{words_of_answers, answer_and_stop}
use Rattle.comparison.proofs.Sayings.{left_to_say}
use Rattle.comparison.proofs.dockets.slots_words.Goals as goal

pub loop-slot-preserved : goal.loop-slot-preserved
loop-slot-preserved c =
    let i = c.loop-slot.slot-index in
    let x = c.slot-item.result in
    let within : c.loop-slot.slot-index < length c.args.slots.now = omega arith in
    let here : drop i c.args.slots.now ≡ x ∷ drop (i + 1) c.args.slots.now = cc (drop-cons c.args.slots.now i x within, add-one i, c.slot-item.is) in
    left_to_say (answer_and_stop (reply_of x)) (words_of_answers (map reply_of (drop (i + 1) c.args.slots.now))) _ (then_said _ _ _ c.slot_words.ensures c.say.ensures.content)
    ∙ ap (λ l. with_words (words_of_answers (map reply_of l)) (content c.loop-slot.text)) (sym here)
    ∙ c.loop-slot.invariant

pub returns : goal.returns
returns c =
    sym (nothing_said (content c.loop-slot.text))
    ∙ ap (λ l. with_words (words_of_answers (map reply_of l)) (content c.loop-slot.text)) (sym (drop_all c.loop-slot.slot-index c.args.slots.now (omega arith)))
    ∙ c.loop-slot.invariant
