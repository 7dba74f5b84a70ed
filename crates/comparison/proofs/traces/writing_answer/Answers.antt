use Rattle.std.proofs.Common.{◌≡◌, ◌+◌, ◌*◌, ◌/◌, ◌≤◌, ◌∙◌, ap, arith, drop, length, lit≤, refl, Some, slice_index, take}
use Rattle.record.specs.Bytes.{number_in}
use Rattle.frame.specs.Orders.{numbers_of, order_of}
use Rattle.frame.proofs.OrderNumbers.{length_numbers}
use Rattle.text.specs.Contents.{content, with_words}
use Rattle.comparison.specs.Cases.{words_of_trace_written, or_no_case}
use Rattle.comparison.proofs.Parts.{parts_there}
use Rattle.comparison.proofs.traces.writing_answer.Goals as goal

pub invariant_of-draft : goal.invariant_of-draft
invariant_of-draft c =
    let bs = c.new.result.bytes.now in
    let count = c.number_at-count.ensures.narrow (lit≤ tt) in
    omega (arith, length_numbers (length bs / 2) bs, ap length c.new.ensures, c.in-Some.ensures.cases.3, count.1)

pub returns : goal.returns
returns c =
    let body = c.args.body.now in
    let k : c.number_at-k.result ≡ number_in 1 2 c.args.body.now = (c.number_at-k.ensures.narrow (lit≤ tt)).0 in
    let m : c.number_at-size.result ≡ number_in 3 2 c.args.body.now = (c.number_at-size.ensures.narrow (lit≤ tt)).0 in
    let n : c.number_at-count.result ≡ number_in 5 2 c.args.body.now = (c.number_at-count.ensures.narrow (lit≤ tt)).0 in
    let within = c.in-Some.ensures.variant.0 refl in
    let fits : 7 + 2 * number_in 5 2 c.args.body.now ≤ length c.args.body.now = omega (arith, within, n) in
    let split = c.in-Some.ensures.cases in
    let bytes : c.new.result.bytes.now ≡ c.in-Some.bytes.now = c.new.ensures in
    let half : length c.new.result.bytes.now / 2 ≡ number_in 5 2 c.args.body.now = omega (arith, split.3, n, ap length bytes) in
    let order : order_of c.new.result ≡ numbers_of (number_in 5 2 c.args.body.now) c.in-Some.bytes.now =
    ap (λ h. numbers_of h c.new.result.bytes.now) half ∙ ap (numbers_of (number_in 5 2 c.args.body.now)) bytes in
    c.writing_by_type.ensures
    ∙ ap (λ told. with_words (or_no_case told) (content c.args.text.now))
    (ap (λ x. Some (words_of_trace_written (slice_index body 0) x (order_of c.new.result) c.number_at-size.result c.in-Some.trace.now)) k
    ∙ ap (λ x. Some (words_of_trace_written (slice_index body 0) (number_in 1 2 body) (order_of c.new.result) x c.in-Some.trace.now)) m
    ∙ ap (λ x. Some (words_of_trace_written (slice_index body 0) (number_in 1 2 body) x (number_in 3 2 body) c.in-Some.trace.now)) order
    ∙ parts_there 7 (2 * number_in 5 2 body) body
    (λ o t. words_of_trace_written (slice_index body 0) (number_in 1 2 body) (numbers_of (number_in 5 2 body) o) (number_in 3 2 body) t) fits
    (split.1 ∙ ap (λ x. take (2 * x) (drop 7 body)) n) (split.2 ∙ ap (λ x. drop (2 * x) (drop 7 body)) n))
