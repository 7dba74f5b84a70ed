use Rattle.std.proofs.Common.{◌≡◌, [], ◌++◌, min, length, codes, append_assoc, ap, ◌∙◌, rules}
use Rattle.sheet.specs.Sheets.{room}
use Rattle.trace.specs.Reading.{reading}
use Rattle.trace.specs.Answers.{read_answer, sheet_after}
use Rattle.text.specs.Contents.{content, with_words}
use Rattle.text.proofs.Contents.{then_said}
use Rattle.comparison.specs.Words.{words_of_reading}
use Rattle.comparison.proofs.traces.readings.Goals as goal

pub returns : goal.returns
returns g c =
    let t = g.I.Item in
    let first = c.reading_words.ensures in
    let full : room c.new-sheet.result ≡ min (length c.args.records.now) 1024 = search rules in
    let again : room c.reading_words.new.sheet ≡ min (length c.args.records.now) 1024 = search rules in
    let said =
    then_said _ _ _ (then_said _ _ _ (then_said _ _ _ c.say.ensures.content first.words) c.say-2.ensures.content) c.reading_words-2.ensures.words in
    let o = reading t (min (length c.args.records.now) 1024) c.args.first.now in
    let p = reading t (min (length c.args.records.now) 1024) c.args.second.now in
    let one = words_of_reading t (read_answer o) (sheet_after [] o) in
    let other = words_of_reading t (read_answer p) (sheet_after (sheet_after [] o) p) in
    rw (again, first.entered, full, c.new-sheet.ensures.entered) at said
    ∙ ap (λ ws. with_words (codes "read " ++ ws) (content c.args.text.now)) (append_assoc one (codes "; ") other)
