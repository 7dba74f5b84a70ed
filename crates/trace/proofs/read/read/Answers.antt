use Rattle.std.proofs.Common.{◌≡◌, Ok, arith, rules}
use Rattle.std.proofs.lemmas.Grind.{common_steps}
use Rattle.item.proofs.Laws.{lawful}
use Rattle.record.proofs.Digits.{bytes_of_type}
use Rattle.sheet.specs.Sheets.{entered, room}
use Rattle.trace.specs.Answers.{shown, read_answer, sheet_after}
use Rattle.trace.specs.declared.read.Accepted.{Accepted}
use Rattle.trace.specs.Reading.{reading}
use Rattle.trace.proofs.Readings.{right_answer, exact_answer}
use Rattle.trace.proofs.read.read.Goals as goal

pub returns-in_err-header-clause-encoded_sound_is_accepted : goal.returns-in_err-header-clause-encoded_sound_is_accepted
returns-in_err-header-clause-encoded_sound_is_accepted g c =
    let law = lawful g.met.I.Item in
    let old = entered c.args.sheet.now in
    let answer : shown c.from_residual.result ≡ read_answer (reading g.I.Item (room c.args.sheet.now) c.args.bytes.now) = search rules in
    let same : entered c.args.sheet.now ≡ sheet_after (entered c.args.sheet.now) (reading g.I.Item (room c.args.sheet.now) c.args.bytes.now) = search rules in
    exact_answer g.I.Item law (room c.args.sheet.now) c.args.bytes.now c.from_residual.result old old answer same

pub returns-in_err-take_all-clause-encoded_sound_is_accepted : goal.returns-in_err-take_all-clause-encoded_sound_is_accepted
returns-in_err-take_all-clause-encoded_sound_is_accepted g c =
    let law = lawful g.met.I.Item in
    let answer : shown c.from_residual-in_err-take_all.result ≡ read_answer (reading g.I.Item (room c.args.sheet.now) c.args.bytes.now) = search rules in
    let same : entered c.take_all.new.sheet ≡ sheet_after (entered c.args.sheet.now) (reading g.I.Item (room c.args.sheet.now) c.args.bytes.now) = search rules in
    exact_answer g.I.Item law (room c.args.sheet.now) c.args.bytes.now c.from_residual-in_err-take_all.result (entered c.args.sheet.now) (entered c.take_all.new.sheet) answer same

pub returns : goal.returns
returns g c =
    let law = lawful g.met.I.Item in
    let n = room c.args.sheet.now in
    let bs = c.args.bytes.now in
    let bytes = bytes_of_type c.args.bytes.now c.type_inv.bytes in
    let h = c.in_ok-header.header in
    let old = entered c.args.sheet.now in
    let os = entered c.take_all.new.sheet in
    let a : Accepted = record { kind = h.kind; k = h.k; order = c.new-2.result } in
    let answer : shown (Ok (record { kind = c.in_ok-header.header.kind; k = c.in_ok-header.header.k; order = c.new-2.result })) ≡ read_answer (reading g.I.Item (room c.args.sheet.now) c.args.bytes.now) =
    grind (arith, common_steps) in
    let same : entered c.take_all.new.sheet ≡ sheet_after (entered c.args.sheet.now) (reading g.I.Item (room c.args.sheet.now) c.args.bytes.now) = search rules in
    let right = right_answer g.I.Item law n bs bytes a old os answer same in
    record {
      answer = answer;
      entered = same;
      loan = grind (arith, common_steps);
      accepted_is_sound = right.sound;
      accepted_is_encoded = right.bytes;
      encoded_sound_is_accepted = exact_answer g.I.Item law n bs (Ok a) old os answer same;
    }
