use Rattle.std.proofs.Common.{◌≡◌, ◌-◌, ◌/◌, min, length, take, drop, ap, ◌∙◌, arith}
use Rattle.std.proofs.lemmas.List.{take_rest, drop_min}
use Rattle.std.specs.List.{slice_get}
use Rattle.std.specs.Simd.{first_chunks}
use Rattle.frame.proofs.RecordPlaces.{records_cut, record_by_number}
use Rattle.frame.proofs.records.Trace.records.Goals as goal

pub returns : goal.returns
returns c =
    let bs = c.args.self.now.bytes.now in
    let body = take (length c.args.self.now.bytes.now - c.min.result) (drop c.min.result c.args.self.now.bytes.now) in
    let front : c.as_chunks.result.0.now ≡ first_chunks 24 (length body / 24) body = c.as_chunks.ensures.front in
    let least : c.min.result ≡ min 8 (length c.args.self.now.bytes.now) = omega arith in
    let after = take_rest bs c.min.result ∙ ap (λ n. drop n bs) least ∙ drop_min 8 bs in
    let in_turn = ap (take c.count.result) front ∙ ap (λ n. take n (first_chunks 24 (length body / 24) body)) c.count.ensures ∙ records_cut bs body after in
    record {
      in_turn = in_turn;
      by_number = λ i. ap (λ rs. slice_get rs i) in_turn ∙ record_by_number i bs;
    }
