use Rattle.std.proofs.Common.{◌≡◌, ◌++◌, ap, sym, refl, ◌∙◌, inl, inr, rules}
use Rattle.std.proofs.lemmas.List.{take-append-drop}
use Rattle.text.specs.Contents.{Content, with_words}
use Rattle.comparison.specs.Cases.{case_answer}
use Rattle.exports.proofs.NotEmpty.{answer_not_empty}
use Rattle.exports.proofs.Texts.{length_over, written_over, none_where_too_long}
use Rattle.exports.proofs.examiner_answer.Goals as goal

pub returns-in-Ok : goal.returns-in-Ok
unfolding with_words
returns-in-Ok c =
    let m = c.args.memory.now in
    let ws = case_answer c.args.letter c.args.body.now in
    let after = c.answer_case.new.text in
    let lender : c.answer_case.new.text.memory.ghost_name ≡ c.new-text.result.memory.ghost_name = ap (λ (x : Content). x.lender) c.in-Ok.ensures.said in
    let said = c.in-Ok.ensures.said ∙ ap (with_words ws) c.new-text.ensures.content in
    let over = written_over ws m _ after said c.length_of.result c.length_of.ensures in
    let long = length_over ws m _ after said c.length_of.result c.length_of.ensures in
    record {
      written_but_for_dockets = (λ other. over (search (rules, lender)));
      written_where_no_case = (λ none. over (search (rules, lender)));
      none_where_too_long = (λ other z. none_where_too_long ws m c.length_of.result (answer_not_empty c.args.letter c.args.body.now) long z);
      written_or_wanting = inl (over (search (rules, lender)));
    }

pub returns-in-Err : goal.returns-in-Err
returns-in-Err c =
    let after = c.answer_case.new.text in
    let lender : c.answer_case.new.text.memory.ghost_name ≡ c.new-text.result.memory.ghost_name = ap (λ (x : Content). x.lender) c.in-Err.ensures.said in
    let said = c.in-Err.ensures.said ∙ c.new-text.ensures.content in
    let same : after.memory.now ≡ c.args.memory.now = sym (take-append-drop after.written after.memory.now) ∙ ap (λ (x : Content). x.bytes ++ x.free) said in
    record {
      written_but_for_dockets = (λ other. let never = c.in-Err.ensures.answered_but_for_dockets other in absurd (cc));
      written_where_no_case = (λ none. let never = c.in-Err.ensures.answered_where_no_case none in absurd (cc));
      none_where_too_long = (λ other z. let never = c.in-Err.ensures.answered_but_for_dockets other in absurd (cc));
      written_or_wanting = inr (refl, ◌∙◌ {b = c.answer_case.new.text.memory.now} (search (rules, lender)) same);
    }
