use Rattle.std.proofs.Common.{◌≡◌, length, sym, ap, ◌∙◌, arith, rules}
use Rattle.std.proofs.lemmas.Result.{err_from_is_err_and}
use Rattle.sheet.proofs.Fills.{loan_same, loan_twice}
use Rattle.sheet.specs.Sheets.{entered, room}
use Rattle.frame.specs.Layout.{record_count}
use Rattle.frame.proofs.RecordPlaces.{length_records}
use Rattle.trace.specs.Reading.{records_taken}
use Rattle.trace.specs.Reading.RecordsTaken.{going}
use Rattle.trace.specs.Answers.{left_after}
use Rattle.trace.proofs.RecordsTaken.{with_place, one_taken, one_refused}
use Rattle.trace.proofs.read.take_all.Goals as goal

pub loop-place-init : goal.loop-place-init
loop-place-init g c = record { taken = ap (λ os. going os) (sym c.requires.empty); loan = loan_same c.args.sheet.now }

pub overflow_cast-place : goal.overflow_cast-place
overflow_cast-place g c =
    let l = ap length c.records-rec-items.ensures.in_turn ∙ length_records c.args.trace.now.bytes.now in
    omega (arith, c.requires.few)

pub returns-in_err-map_err : goal.returns-in_err-map_err
returns-in_err-map_err g c =
    let s = c.loop-place.sheet in
    let fin = c.take_record.new.sheet in
    let e = c.take_record.ensures in
    let v = c.loop-place.invariant in
    let p = err_from_is_err_and c.from_residual.result c.from_residual.ensures.1 in
    let q : c.map_err.result ≡ with_place c.loop-place.place c.take_record.result = search rules in
    rw (p.1, p.2) (record {
      taken =
          one_refused g.I.Item (room c.args.sheet.now) c.args.trace.now.bytes.now c.loop-place.place (room s) c.records-rec-items.result.now (entered s) (entered fin)
          c.take_record.result c.records-rec-items.ensures.in_turn c.loop-place-test.true v.taken v.loan.room e.step c.in_err-map_err.field-0.0 (sym q ∙ c.in_err-map_err.was);
      loan = loan_twice c.args.sheet.now s fin v.loan e.loan e.grows;
    })

pub loop-place-preserved : goal.loop-place-preserved
loop-place-preserved g c =
    let s = c.loop-place.sheet in
    let fin = c.take_record.new.sheet in
    let e = c.take_record.ensures in
    let v = c.loop-place.invariant in
    let q : c.map_err.result ≡ with_place c.loop-place.place c.take_record.result = search rules in
    record {
      taken =
          one_taken g.I.Item (room c.args.sheet.now) c.args.trace.now.bytes.now c.loop-place.place (room s) c.records-rec-items.result.now (entered s) (entered fin)
          c.take_record.result c.records-rec-items.ensures.in_turn c.loop-place-test.true v.taken v.loan.room e.step
          ∙ ap (λ r. left_after r (entered fin)) (sym q ∙ c.in_ok-map_err.was);
      loan = loan_twice c.args.sheet.now s fin v.loan e.loan e.grows;
    }

pub returns : goal.returns
returns g c =
    let bs = c.args.trace.now.bytes.now in
    let v = c.loop-place.invariant in
    let l = ap length c.records-rec-items.ensures.in_turn ∙ length_records bs in
    let e : record_count c.args.trace.now.bytes.now ≡ c.loop-place.place = omega arith in
    record { taken = ap (records_taken g.I.Item (room c.args.sheet.now) bs) e ∙ v.taken; loan = v.loan }
