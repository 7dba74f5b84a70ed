use Rattle.std.proofs.Common.{ap, ◌∙◌}
use Rattle.frame.specs.Kinds.{kind_number}
use Rattle.frame.specs.Orders.{order_of}
use Rattle.frame.proofs.FirstNumbers.{front_of_first}
use Rattle.docket.specs.Buffers.{held}
use Rattle.docket.specs.Pairs.{sheet_ops}
use Rattle.examination.specs.Kinds.{seat_of}
use Rattle.examination.specs.Orders.{order_answer, order_written}
use Rattle.examination.proofs.examining.certify_accepted.Goals as goal

pub returns : goal.returns
returns g c =
    let a = c.args.accepted.now in
    let seat = seat_of (kind_number a.kind) in
    let ops = sheet_ops g.I.Item.number c.args.sheet.now in
    let b = held c.args.buffers.now in
    let front = front_of_first g.row.N (order_of a.order) c.len.ensures c.numbers-numbers.ensures c.requires.few in
    let e = c.certify_of_kind.ensures in
    record { answer = e.answer ∙ ap (λ p. order_answer seat ops a.k p b) front; written = e.written ∙ ap (λ p. order_written seat ops a.k p b) front; lenders = e.lenders }
