use Rattle.std.proofs.Common.{[], ◌++◌, codes, ap, sym, ◌∙◌, append_assoc}
use Rattle.refusal.specs.Wording.{refusal_line}
use Rattle.text.specs.Contents.{content, with_words}
use Rattle.text.proofs.Contents.{then_said, nothing_said}
use Rattle.comparison.specs.Cases.{unless_unread}
use Rattle.comparison.proofs.traces.read_or_say.Goals as goal

pub returns-in-Ok-clause-said : goal.returns-in-Ok-clause-said
returns-in-Ok-clause-said g c =
    let before = content c.args.text.now in
    sym (nothing_said before) ∙ ap (λ r. with_words (unless_unread c.args.case.now [] r) before) c.in-Ok.ensures.answer

pub returns-in-Err-clause-said : goal.returns-in-Err-clause-said
returns-in-Err-clause-said g c =
    let word = c.args.case.now in
    let before = content c.args.text.now in
    then_said _ _ _ c.say.ensures.content c.say_refusal.ensures.said
    ∙ ap (λ ws. with_words ws before) (append_assoc word (codes " unread ") (refusal_line c.from.result))
    ∙ ap (λ r. with_words (word ++ (codes " unread " ++ refusal_line r)) before) c.from.ensures
    ∙ ap (λ r. with_words (unless_unread word [] r) before) c.in-Err.ensures.answer
