use Rattle.std.proofs.Common.{length, take, Ok, is_ok, sym, ap, ◌∙◌, arith}
use Rattle.std.proofs.lemmas.Bool.{cond-true}
use Rattle.giving.specs.Fronts.{over}
use Rattle.std.proofs.lemmas.Bool.Decides.{nat_tests}
use Rattle.std.proofs.lemmas.Result.{err_from_is_err_and}
use Rattle.sheet.specs.Sheets.{entered, room}
use Rattle.frame.specs.Kinds.{kind_number}
use Rattle.frame.specs.Orders.{order_of}
use Rattle.frame.proofs.FirstNumbers.{front_of_first}
use Rattle.trace.specs.Answers.{contents_of}
use Rattle.trace.specs.Contents.{contents, encode}
use Rattle.trace.specs.Reading.{reading}
use Rattle.trace.specs.Reading.Outcome.{accepted}
use Rattle.trace.proofs.Readings.{length_encode, accepted_of}
use Rattle.trace.proofs.copy.copy.Goals as goal

pub returns-clause-written_reads_as_what_went_in : goal.returns-clause-written_reads_as_what_went_in
returns-clause-written_reads_as_what_went_in g c =
    let e = c.in_ok-accepted.ensures in
    let sound = e.accepted_is_sound in
    let a = c.in_ok-accepted.accepted in
    let os = entered c.read.new.sheet in
    let long = ap length e.accepted_is_encoded ∙ length_encode g.I.Item (contents_of a os) sound.ordered in
    let items = front_of_first 1024 (order_of a.order) c.len.ensures c.numbers-numbers.ensures (omega (arith, sound.ordered, sound.count)) in
    λ n h.
    ap (λ z. reading g.I.Item n (take z c.write_of_kind.new.out)) long ∙ c.in_ok-write_of_kind.ensures.reads_as_what_went_in n h
    ∙ ap (λ xs. accepted (contents (kind_number a.kind) a.k os xs)) items

pub returns-clause-written_back_is_its_own_bytes : goal.returns-clause-written_back_is_its_own_bytes
returns-clause-written_back_is_its_own_bytes g c =
    let e = c.in_ok-accepted.ensures in
    let sound = e.accepted_is_sound in
    let a = c.in_ok-accepted.accepted in
    let os = entered c.read.new.sheet in
    let mem = c.args.out.now in
    let items = front_of_first 1024 (order_of a.order) c.len.ensures c.numbers-numbers.ensures (omega (arith, sound.ordered, sound.count)) in
    let same = ap (λ xs. contents (kind_number a.kind) a.k os xs) items in
    let w = c.in_ok-write_of_kind.ensures in
    w.bytes ∙ cond-true _ _ mem (ap is_ok (sym w.answer))
    ∙ ap (λ d. over (encode g.I.Item d) mem) same ∙ ap (λ z. over z mem) (sym e.accepted_is_encoded)

pub returns-clause-answer : goal.returns-clause-answer
returns-clause-answer g c =
    let e = c.in_ok-accepted.ensures in
    let sound = e.accepted_is_sound in
    let items = front_of_first 1024 (order_of c.in_ok-accepted.accepted.order) c.len.ensures c.numbers-numbers.ensures (omega (arith, sound.ordered, sound.count)) in
    let read = accepted_of (Ok c.in_ok-accepted.accepted) (reading g.I.Item (room c.args.sheet.now) c.args.bytes.now) (entered c.args.sheet.now) (entered c.read.new.sheet) e.answer e.entered in
    let w = c.in_ok-write_of_kind.ensures.answer in
    grind (arith, nat_tests)

pub returns-in_err-write_of_kind-clause-answer : goal.returns-in_err-write_of_kind-clause-answer
returns-in_err-write_of_kind-clause-answer g c =
    let e = c.in_ok-accepted.ensures in
    let sound = e.accepted_is_sound in
    let items = front_of_first 1024 (order_of c.in_ok-accepted.accepted.order) c.len.ensures c.numbers-numbers.ensures (omega (arith, sound.ordered, sound.count)) in
    let p = err_from_is_err_and c.from_residual-in_err-write_of_kind.result c.from_residual-in_err-write_of_kind.ensures.1 in
    let read = accepted_of (Ok c.in_ok-accepted.accepted) (reading g.I.Item (room c.args.sheet.now) c.args.bytes.now) (entered c.args.sheet.now) (entered c.read.new.sheet) e.answer e.entered in
    let w = c.in_err-write_of_kind.ensures.answer in
    rw (p.1, p.2) (grind (arith, nat_tests))

pub returns-in_err-accepted-clause-answer : goal.returns-in_err-accepted-clause-answer
returns-in_err-accepted-clause-answer g c =
    let p = err_from_is_err_and c.from_residual.result c.from_residual.ensures.1 in
    let read = c.in_err-accepted.ensures.answer in
    rw (p.1, p.2) (grind (arith, nat_tests))
