use Rattle.std.proofs.Common.{◌≡◌, ◌∙◌, ap, sym, lit≤, Some, slice_index}
use Rattle.item.specs.Tickets.{ticket_items}
use Rattle.item.specs.Stamps.{stamp_items}
use Rattle.record.specs.Bytes.{number_in}
use Rattle.text.specs.Contents.{with_words, content}
use Rattle.comparison.specs.Cases.{number_again, item_told, or_no_case}
use Rattle.comparison.proofs.Parts.{told_ticket, told_stamp, told_lane, told_whole}
use Rattle.comparison.proofs.items.item_answer.Goals as goal
use Rattle.comparison.proofs.items.item_answer.Goals.{in-0, in-1, in-2}

pub returns : goal.returns
returns c =
    let n : c.number_at-number.result ≡ number_in 1 8 c.args.body.now = (c.number_at-number.ensures.narrow (lit≤ tt)).0 in
    let told : item_told (slice_index c.args.body.now 0) c.args.body.now ≡ Some c.match-body.answer =
    elim c.match-body.branch [
      | in-0 w ↦
          told_ticket c.args.body.now w.in-0.is ∙ ap (λ x. Some (number_again ticket_items.number (ticket_items.named x))) (sym n) ∙ ap (λ x. Some x) (sym (w.answer-is ∙ w.packed_again-answer.ensures))
      | in-1 w ↦
          told_stamp c.args.body.now w.in-1.is ∙ ap (λ x. Some (number_again stamp_items.number (stamp_items.named x))) (sym n) ∙ ap (λ x. Some x) (sym (w.answer-is ∙ w.packed_again-answer-in-1.ensures))
      | in-2 w ↦ told_lane c.args.body.now w.in-2.is ∙ ap (λ x. Some x) (sym (w.answer-is ∙ w.lane_again-answer.ensures))
    ] in
    c.item_words.ensures ∙ ap (λ o. with_words (or_no_case o) (content c.args.text.now)) (told_whole c.args.body.now c.match-body.answer c.if-body-lt9.false told)
