use Rattle.std.proofs.Common.{◌≡◌, ap, ◌∙◌, arith, rules}
use Rattle.item.proofs.Laws.{lawful}
use Rattle.record.specs.Records.{Fit, decode_record, encode_record}
use Rattle.record.proofs.Codec.{record_there}
use Rattle.record.proofs.encoding.encode.Goals as goal

pub returns-clause-says_the_operation : goal.returns-clause-says_the_operation
returns-clause-says_the_operation g c =
    let op = c.args.op.now in
    let fit : Fit g.I.Item op = record { method = c.word_of.ensures.fit; thread = omega arith; start = omega arith; end = omega arith } in
    let bytes : c.bytes_of_fields.result ≡ encode_record g.I.Item op = search rules in
    ap (decode_record g.I.Item) bytes ∙ record_there g.I.Item (lawful g.met.I.Item) op fit
