use Rattle.std.proofs.Common.{◌≡◌, ℕ, List, length, take, replicate, ap, ◌∙◌, arith}
use Rattle.std.proofs.lemmas.List.{take-replicate, length-replicate}
use Rattle.sheet.specs.Sheets.{entered}
use Rattle.frame.specs.Orders.{order_of}
use Rattle.frame.proofs.FirstNumbers.{front_of_first}
use Rattle.trace.specs.Writing.{write_answer, memory_after}
use Rattle.text.specs.Contents.{content, with_words}
use Rattle.comparison.specs.Hashes.{hash_of}
use Rattle.comparison.specs.Words.{words_of_written}
use Rattle.comparison.proofs.traces.write_within.Goals as goal

pub returns : goal.returns
returns g c =
    let d = c.args.draft.now in
    let os = entered c.args.sheet.now in
    let before = content c.args.text.now in
    let xs = order_of d.order in
    let filled : List ℕ = take c.from.result (replicate g.row.M 165) in
    let order : take c.len.result c.numbers-numbers.result ≡ xs = front_of_first g.row.N xs c.len.ensures c.numbers-numbers.ensures c.requires.numbers in
    let memory : filled ≡ replicate d.size 165 =
    take-replicate c.from.result g.row.M 165 (omega (arith, c.from.ensures, c.requires.bytes)) ∙ ap (λ n. replicate n 165) c.from.ensures in
    let answer : c.write-answer.result ≡ write_answer d.kind (length os) (length xs) d.size =
    c.write-answer.ensures.answer
    ∙ ap (λ o. write_answer d.kind (length os) (length o) (length filled)) order
    ∙ ap (λ m. write_answer d.kind (length os) (length xs) (length m)) memory
    ∙ ap (write_answer d.kind (length os) (length xs)) (length-replicate d.size 165) in
    let hash : c.hash_on.result ≡ hash_of (memory_after g.I.Item d.kind d.k os xs (replicate d.size 165)) =
    c.hash_on.ensures
    ∙ ap hash_of
    (c.write-answer.ensures.bytes
    ∙ ap (λ o. memory_after g.I.Item d.kind d.k os o filled) order
    ∙ ap (memory_after g.I.Item d.kind d.k os xs) memory) in
    c.written_words.ensures
    ∙ ap (λ r. with_words (words_of_written r c.hash_on.result) before) answer
    ∙ ap (λ h. with_words (words_of_written (write_answer d.kind (length os) (length xs) d.size) h) before) hash
