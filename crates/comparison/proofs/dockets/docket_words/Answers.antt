use Rattle.std.proofs.Common.{◌≡◌, [], ◌++◌, codes, map, ap, ◌∙◌, rules}
use Rattle.order.specs.Steps.{giving_after}
use Rattle.calls.specs.Calls.{placed_by}
use Rattle.docket.specs.Pairs.{sheet_ops}
use Rattle.docket.specs.Slots.{call_of, reply_of}
use Rattle.text.specs.Contents.{content, with_words}
use Rattle.text.proofs.Contents.{then_said}
use Rattle.comparison.specs.Words.{words_of_held}
use Rattle.comparison.specs.Cases.{words_of_answers}
use Rattle.comparison.proofs.dockets.docket_words.Goals as goal

pub returns : goal.returns
returns g c =
    let a = c.answer_calls.ensures in
    let before = content c.args.text.now in
    let ops = sheet_ops g.I.Item.number c.args.sheet.now in
    let steps = placed_by g.H.Holder.seat ops c.args.k [] (map call_of c.args.slots.now) in
    let held : g.H.Holder.giving c.close-holder.result ≡ giving_after g.H.Holder.seat ops steps = search rules in
    then_said _ _ _ (then_said _ _ _ c.say.ensures.content c.slots_words.ensures) c.held_words.ensures
    ∙ ap (λ l. with_words (codes "docket " ++ (words_of_answers (map reply_of c.answer_calls.new.slots) ++ words_of_held l)) before) held
    ∙ ap (λ l. with_words (codes "docket " ++ (words_of_answers l ++ words_of_held (giving_after g.H.Holder.seat ops steps))) before) a.answers
