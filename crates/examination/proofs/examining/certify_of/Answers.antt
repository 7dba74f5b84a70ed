use Rattle.std.proofs.Common.{◌≡◌, min, length, Err, refl, sym, ap, ◌∙◌, arith, rules}
use Rattle.std.proofs.lemmas.Result.{err_from_is_err_and}
use Rattle.sheet.specs.Sheets.{entered, room}
use Rattle.record.proofs.Digits.{bytes_of_type}
use Rattle.trace.specs.Faults.{read_refusal}
use Rattle.trace.specs.Reading.{reading}
use Rattle.docket.specs.Buffers.{held}
use Rattle.examination.specs.Traces.{Examined, examining}
use Rattle.trace.proofs.Outcomes.{accepted_as_answered, refused_as_answered}
use Rattle.trace.proofs.Rooms.{enough_room}
use Rattle.examination.proofs.examining.certify_of.Goals as goal

pub certify_accepted-requires : goal.certify_accepted-requires
certify_accepted-requires g c =
    let sound = c.in_ok-accepted.ensures.accepted_is_sound in
    let full : room c.new-sheet.result ≡ min (length c.args.records.now) 1024 = search rules in
    record { few = omega (arith, sound.ordered, sound.place, full, c.requires.few); bounded = c.requires.bounded }

pub returns : goal.returns
returns g c =
    let t = g.I.Item in
    let b = held c.args.buffers.now in
    let o = reading t (room c.new-sheet.result) c.args.bytes.now in
    let full : room c.new-sheet.result ≡ min (length c.args.records.now) 1024 = search rules in
    let read = c.in_ok-accepted.ensures in
    let all = enough_room t (length c.args.records.now) c.args.bytes.now (room c.new-sheet.result) full (bytes_of_type c.args.bytes.now c.type_inv.bytes) c.requires.enough in
    let same = ap (examining t b) (accepted_as_answered o (entered c.new-sheet.result) (entered c.read.new.sheet) c.in_ok-accepted.accepted read.answer read.entered ∙ all) in
    let e = c.certify_accepted.ensures in
    record { answer = e.answer ∙ ap (λ (x : Examined). x.answer) same; written = e.written ∙ ap (λ (x : Examined). x.buffers) same; lenders = e.lenders }

pub returns-in_err-accepted : goal.returns-in_err-accepted
returns-in_err-accepted g c =
    let t = g.I.Item in
    let b = held c.args.buffers.now in
    let o = reading t (room c.new-sheet.result) c.args.bytes.now in
    let full : room c.new-sheet.result ≡ min (length c.args.records.now) 1024 = search rules in
    let all = enough_room t (length c.args.records.now) c.args.bytes.now (room c.new-sheet.result) full (bytes_of_type c.args.bytes.now c.type_inv.bytes) c.requires.enough in
    let same = ap (examining t b) all in
    let p = err_from_is_err_and c.from_residual.result c.from_residual.ensures.1 in
    let r : examining t b o ≡ record { answer = Err (read_refusal c.in_err-accepted.field-0.0); buffers = b } =
    refused_as_answered (examining t b) (λ f. record { answer = Err (read_refusal f); buffers = b }) (λ f. refl) (λ os i f. refl) o c.in_err-accepted.field-0.0 c.in_err-accepted.ensures.answer in
    record {
      answer = p.1 ∙ ap Err p.2 ∙ sym (ap (λ (x : Examined). x.answer) r) ∙ ap (λ (x : Examined). x.answer) same;
      written = sym (ap (λ (x : Examined). x.buffers) r) ∙ ap (λ (x : Examined). x.buffers) same;
      lenders = (refl, refl, refl);
    }
