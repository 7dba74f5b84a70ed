use Rattle.std.proofs.Common.{sym, arith}
use Rattle.item.proofs.Laws.{lawful}
use Rattle.record.proofs.Digits.{bytes_of_type}
use Rattle.record.proofs.Codec.{decoded, record_back}
use Rattle.record.proofs.decoding.decode.Goals as goal

pub returns : goal.returns
returns g c =
    let answer =
    decoded g.I.Item c.args.bytes.now c.number_at.result c.number_at-2.result c.number_at-3.result c.number_at-4.result
    c.in_ok-method_of.field-0 (c.number_at.ensures.narrow (omega arith)).0 (c.number_at-2.ensures.narrow (omega arith)).0
    (c.number_at-3.ensures.narrow (omega arith)).0 (c.number_at-4.ensures.narrow (omega arith)).0 c.in_ok-method_of.ensures in
    record { answer = answer; written_the_same = λ l. (record_back g.I.Item (lawful g.met.I.Item) c.args.bytes.now _ (bytes_of_type c.args.bytes.now c.type_inv.bytes) l (sym answer)).0 }
