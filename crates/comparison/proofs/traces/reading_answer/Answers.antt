use Rattle.std.proofs.Common.{◌≡◌, ◌+◌, ◌≤◌, ◌∙◌, ap, arith, drop, length, lit≤, min, refl, Some, take}
use Rattle.record.specs.Bytes.{number_in}
use Rattle.text.specs.Contents.{content, with_words}
use Rattle.comparison.specs.Cases.{words_of_two_readings, or_no_case}
use Rattle.comparison.proofs.Parts.{parts_there}
use Rattle.comparison.proofs.traces.reading_answer.Goals as goal

pub returns-in-Some : goal.returns-in-Some
returns-in-Some c =
    let body = c.args.body.now in
    let m : c.number_at-room.result ≡ number_in 0 2 c.args.body.now = (c.number_at-room.ensures.narrow (lit≤ tt)).0 in
    let n : c.number_at-length.result ≡ number_in 2 4 c.args.body.now = (c.number_at-length.ensures.narrow (lit≤ tt)).0 in
    let within = c.in-Some.ensures.variant.0 refl in
    let fits : 6 + number_in 2 4 c.args.body.now ≤ length c.args.body.now = omega (arith, within, n) in
    let split = c.in-Some.ensures.cases in
    c.readings_in_room.ensures
    ∙ ap (λ told. with_words (or_no_case told) (content c.args.text.now))
    (ap (λ r. Some (words_of_two_readings (min r 1024) c.in-Some.first.now c.in-Some.second.now)) m
    ∙ parts_there 6 (number_in 2 4 body) body (words_of_two_readings (min (number_in 0 2 body) 1024)) fits
    (split.1 ∙ ap (λ k. take k (drop 6 body)) n) (split.2 ∙ ap (λ k. drop k (drop 6 body)) n))
