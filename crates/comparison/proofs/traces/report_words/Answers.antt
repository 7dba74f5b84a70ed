use Rattle.std.proofs.Common.{List, ℕ, Bor, Some, None, ap, refl, subst, sym, ◌∙◌, arith}
use Rattle.std.proofs.lemmas.Bool.Decides.{nat_tests}
use Rattle.std.proofs.lemmas.List.{length-replicate}
use Rattle.std.specs.Str.{IsUtf8}
use Rattle.report.specs.Reports.{report_on}
use Rattle.text.specs.Contents.{content, with_words, all_said}
use Rattle.comparison.specs.Words.{words_of_text}
use Rattle.comparison.proofs.Lasts.{read_as_text}
use Rattle.comparison.proofs.Sayings.{all_that_fit}
use Rattle.comparison.proofs.Printed.{report_text}
use Rattle.comparison.proofs.traces.report_words.Goals as goal

pub returns-in-Some : goal.returns-in-Some
returns-in-Some g c =
    let ws = (report_on c.args.body.now).text in
    let said = c.report_trace.ensures.said ∙ ap (with_words ws) c.new-report.ensures.content in
    let all = all_that_fit ws _ _ (Some c.in-Some.printed) (c.in-Some.ensures ∙ ap all_said said) in
    let long = length-replicate {A = ℕ} g.row.N 0 in
    let P : List ℕ → Type 0 = IsUtf8 in
    let text = subst P (sym all.0) (report_text c.args.body.now) in
    let read = ap (λ (b : Bor (List ℕ)). b.now) c.unwrap_or.ensures ∙ read_as_text _ c.in-Some.printed.now text c.from_utf8.result _ c.from_utf8.ensures.cases in
    record {
      fits = grind (arith, nat_tests, all.1, long);
      short = c.report_trace.ensures.short;
      said = c.text_words.ensures ∙ ap (λ l. with_words (words_of_text l) (content c.args.text.now)) (read ∙ all.0);
    }

pub returns-in-None : goal.returns-in-None
returns-in-None g c =
    let ws = (report_on c.args.body.now).text in
    let said = c.report_trace.ensures.said ∙ ap (with_words ws) c.new-report.ensures.content in
    let over = all_that_fit ws _ _ None (c.in-None.ensures ∙ ap all_said said) in
    let long = length-replicate {A = ℕ} g.row.N 0 in
    record {
      fits = grind (arith, nat_tests, over, long);
      short = c.report_trace.ensures.short;
      said = refl;
    }
