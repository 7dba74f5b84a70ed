use Rattle.std.proofs.Common.{◌≡◌, [], codes, ap, length, arith}
use Rattle.sheet.specs.Sheets.{room}
use Rattle.frame.specs.Orders.{order_of}
use Rattle.trace.specs.Reading.{reading}
use Rattle.trace.specs.Answers.{sheet_after}
use Rattle.text.specs.Contents.{content}
use Rattle.comparison.specs.Cases.{words_of_writing}
use Rattle.comparison.proofs.Sayings.{accepted_said, refusal_said}
use Rattle.comparison.proofs.traces.writing.Goals as goal

pub returns-then-read_or_say : goal.returns-then-read_or_say
returns-then-read_or_say g c =
    let full : room c.new-sheet.result ≡ 1024 = omega (arith, ap length c.new-sheet.ensures.memory, c.requires) in
    let e = c.read_or_say.ensures in
    let said = accepted_said _ (codes "write") _ (content c.args.text.now) (c.if-read_or_say.ensures.accepted) e.said c.write_words.ensures in
    rw (e.entered, full, c.new-sheet.ensures.entered) at said

pub returns-else-read_or_say : goal.returns-else-read_or_say
returns-else-read_or_say g c =
    let d = c.args.draft.now in
    let full : room c.new-sheet.result ≡ 1024 = omega (arith, ap length c.new-sheet.ensures.memory, c.requires) in
    let said =
    refusal_said _ (codes "write") (words_of_writing g.I.Item d.kind d.k (order_of d.order) d.size (sheet_after [] (reading g.I.Item 1024 c.args.trace.now))) (content c.args.text.now)
    (c.if-read_or_say.ensures.accepted) c.read_or_say.ensures.said in
    rw full at said
