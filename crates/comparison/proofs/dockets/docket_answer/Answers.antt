use Rattle.std.proofs.Common.{◌≡◌, ◌+◌, ◌≤◌, ◌∙◌, ap, arith, drop, length, lit≤, refl, slice_index, Some, take, is_ok, if◌then◌else◌}
use Rattle.record.specs.Bytes.{number_in}
use Rattle.frame.specs.Kinds.{kind_number}
use Rattle.examination.specs.Kinds.{seat_of}
use Rattle.text.specs.Contents.{content, with_words}
use Rattle.comparison.specs.Cases.{words_of_docket, or_no_case}
use Rattle.comparison.proofs.Parts.{any_seat, parts_there}
use Rattle.comparison.proofs.dockets.docket_answer.Goals as goal

pub returns-in-Some-clause-said : goal.returns-in-Some-clause-said
returns-in-Some-clause-said c =
    let body = c.args.body.now in
    let before = content c.args.text.now in
    let k : c.number_at-k.result ≡ number_in 1 2 c.args.body.now = (c.number_at-k.ensures.narrow (lit≤ tt)).0 in
    let n : c.number_at-length.result ≡ number_in 3 4 c.args.body.now = (c.number_at-length.ensures.narrow (lit≤ tt)).0 in
    let within = c.in-Some.ensures.variant.0 refl in
    let fits : 7 + number_in 3 4 c.args.body.now ≤ length c.args.body.now = omega (arith, within, n) in
    let split = c.in-Some.ensures.cases in
    let seat : seat_of (kind_number c.any_kind.result) ≡ seat_of (slice_index c.args.body.now 0) = ap (λ kind. seat_of (kind_number kind)) c.any_kind.ensures ∙ any_seat (slice_index c.args.body.now 0) in
    c.docket_by_type.ensures.said
    ∙ ap (λ told. if is_ok c.docket_by_type.result then with_words (or_no_case told) before else before)
    (ap (λ s. Some (words_of_docket s c.number_at-k.result c.in-Some.trace.now c.in-Some.calls.now)) seat
    ∙ ap (λ x. Some (words_of_docket (seat_of (slice_index body 0)) x c.in-Some.trace.now c.in-Some.calls.now)) k
    ∙ parts_there 7 (number_in 3 4 body) body (words_of_docket (seat_of (slice_index body 0)) (number_in 1 2 body)) fits
    (split.1 ∙ ap (λ x. take x (drop 7 body)) n) (split.2 ∙ ap (λ x. drop x (drop 7 body)) n))
