use Rattle.std.proofs.Common.{◌≡◌, ◌≤◌, min, length, refl, sym, ap, subst, ◌∙◌, arith, rules}
use Rattle.sheet.specs.Sheets.{entered, room}
use Rattle.record.proofs.Digits.{bytes_of_type}
use Rattle.trace.specs.Faults.{read_refusal}
use Rattle.trace.specs.Reading.{reading}
use Rattle.trace.proofs.Outcomes.{accepted_as_answered, refused_as_answered}
use Rattle.trace.proofs.Rooms.{enough_room}
use Rattle.text.specs.Contents.{content, with_words}
use Rattle.report.specs.Reports.{Verdict, refusing, saying}
use Rattle.report.proofs.report.say_report.Goals as goal

pub say_accepted-requires : goal.say_accepted-requires
say_accepted-requires g c =
    let sound = c.in-Ok.ensures.accepted_is_sound in
    let full : room c.new-sheet.result ≡ min (length c.args.records.now) 1024 = search rules in
    record { few = omega (arith, sound.ordered, sound.place, full, c.requires.few); bounded = c.requires.bounded }

pub returns-in-Ok : goal.returns-in-Ok
returns-in-Ok g c =
    let t = g.I.Item in
    let full : room c.new-sheet.result ≡ min (length c.args.records.now) 1024 = search rules in
    let e = c.in-Ok.ensures in
    let o = reading t (room c.new-sheet.result) c.args.bytes.now in
    let all = enough_room t (length c.args.records.now) c.args.bytes.now (room c.new-sheet.result) full (bytes_of_type c.args.bytes.now c.type_inv.bytes) c.requires.enough in
    let same = ap (saying t) (accepted_as_answered o (entered c.new-sheet.result) (entered c.read.new.sheet) c.in-Ok.accepted e.answer e.entered ∙ all) in
    record {
      granted = c.say_accepted.ensures.granted ∙ ap (λ (v : Verdict). v.granted) same;
      said = c.say_accepted.ensures.said ∙ ap (λ (v : Verdict). with_words v.text (content c.args.text.now)) same;
      short = subst (λ (v : Verdict). length v.text ≤ 150639) same c.say_accepted.ensures.short;
    }

pub returns-in-Err : goal.returns-in-Err
returns-in-Err g c =
    let t = g.I.Item in
    let full : room c.new-sheet.result ≡ min (length c.args.records.now) 1024 = search rules in
    let o = reading t (room c.new-sheet.result) c.args.bytes.now in
    let f = c.in-Err.fault in
    let all = enough_room t (length c.args.records.now) c.args.bytes.now (room c.new-sheet.result) full (bytes_of_type c.args.bytes.now c.type_inv.bytes) c.requires.enough in
    let same : refusing (read_refusal c.in-Err.fault) ≡ saying t (reading t 1024 c.args.bytes.now) =
    sym (refused_as_answered (saying t) (λ x. refusing (read_refusal x)) (λ x. refl) (λ os i x. refl) o f c.in-Err.ensures.answer) ∙ ap (saying t) all in
    record {
      granted = ap (λ (v : Verdict). v.granted) same;
      said =
          c.say_refused.ensures.said ∙ ap (λ r. with_words (refusing r).text (content c.args.text.now)) c.from.ensures
          ∙ ap (λ (v : Verdict). with_words v.text (content c.args.text.now)) same;
      short =
          subst (λ (v : Verdict). length v.text ≤ 150639) (ap refusing c.from.ensures ∙ same)
          (let few = c.say_refused.ensures.short in omega (arith, few));
    }
