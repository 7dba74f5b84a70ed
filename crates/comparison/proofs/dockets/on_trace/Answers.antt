use Rattle.std.proofs.Common.{◌≡◌, [], codes, map, min, ap, length, arith}
use Rattle.sheet.specs.Sheets.{room}
use Rattle.record.proofs.Digits.{bytes_of_type}
use Rattle.frame.specs.Kinds.{kind_number}
use Rattle.trace.specs.Reading.{reading}
use Rattle.trace.specs.Answers.{sheet_after}
use Rattle.trace.proofs.Rooms.{enough_room}
use Rattle.docket.specs.Pairs.{paired_all}
use Rattle.docket.specs.Slots.{call_of}
use Rattle.examination.specs.Kinds.{seat_of}
use Rattle.text.specs.Contents.{content}
use Rattle.comparison.specs.Cases.{words_of_session}
use Rattle.comparison.proofs.Sayings.{accepted_said, refusal_said}
use Rattle.comparison.proofs.dockets.on_trace.Goals as goal

pub returns-then-read_or_say : goal.returns-then-read_or_say
returns-then-read_or_say g c =
    let full : room c.new-sheet.result ≡ min (length c.args.records.now) 1024 = omega (arith, ap length c.new-sheet.ensures.memory) in
    let all = enough_room g.I.Item (length c.args.records.now) c.args.trace.now (room c.new-sheet.result) full (bytes_of_type c.args.trace.now c.type_inv.trace) c.requires in
    let e = c.read_or_say.ensures in
    let said = accepted_said _ (codes "docket") _ (content c.args.text.now) (c.if-read_or_say.ensures.accepted) e.said c.docket_words_by_kind.ensures in
    rw (e.entered, all, c.new-sheet.ensures.entered) at said

pub returns-else-read_or_say : goal.returns-else-read_or_say
returns-else-read_or_say g c =
    let full : room c.new-sheet.result ≡ min (length c.args.records.now) 1024 = omega (arith, ap length c.new-sheet.ensures.memory) in
    let all = enough_room g.I.Item (length c.args.records.now) c.args.trace.now (room c.new-sheet.result) full (bytes_of_type c.args.trace.now c.type_inv.trace) c.requires in
    let os = sheet_after [] (reading g.I.Item 1024 c.args.trace.now) in
    let said =
    refusal_said _ (codes "docket") (words_of_session (seat_of (kind_number c.args.kind)) (paired_all g.I.Item.number os) c.args.k (map call_of c.args.slots.now)) (content c.args.text.now)
    (c.if-read_or_say.ensures.accepted) c.read_or_say.ensures.said in
    rw all at said
