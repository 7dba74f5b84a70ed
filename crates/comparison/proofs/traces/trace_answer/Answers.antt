use Rattle.std.proofs.Common.{◌≡◌, true, ap, ◌∙◌, arith}
use Rattle.std.proofs.lemmas.Bool.Decides.{nat_tests}
use Rattle.text.specs.Contents.{content}
use Rattle.comparison.proofs.traces.trace_answer.Goals.{then-body-gt700-via-then-body-gt700, then-body-gt700-via-else-body-gt700+then-not-report_words}
use Rattle.comparison.proofs.traces.trace_answer.Goals as goal

pub returns-then-body-gt700 : goal.returns-then-body-gt700
returns-then-body-gt700 c =
    let e = c.report_words-then-body-gt700.ensures in
    let all : c.report_words-then-body-gt700.result ≡ true = grind (arith, nat_tests, e.fits, e.short) in
    let before : content c.then-body-gt700.text ≡ content c.args.text.now =
    elim c.then-body-gt700.branch [
      | then-body-gt700-via-then-body-gt700 w ↦ ap content w.text-is
      | then-body-gt700-via-else-body-gt700+then-not-report_words w ↦ ap content w.text-is ∙ (rw w.if-not-report_words.true at w.report_words.ensures.said)
    ] in
    rw (all, before) at e.said
