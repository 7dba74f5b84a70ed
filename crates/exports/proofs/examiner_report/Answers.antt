use Rattle.std.proofs.Common.{◌≡◌, ap, ◌∙◌, arith, rules}
use Rattle.text.specs.Contents.{Content, with_words}
use Rattle.report.specs.Reports.{report_on}
use Rattle.exports.proofs.NotEmpty.{report_not_empty}
use Rattle.exports.proofs.Texts.{length_over, written_over, length_of_fitting, none_where_too_long}
use Rattle.exports.proofs.examiner_report.Goals as goal

pub returns : goal.returns
unfolding with_words
returns c =
    let m = c.args.memory.now in
    let ws = (report_on c.args.bytes.now).text in
    let after = c.report_trace.new.text in
    let lender : c.report_trace.new.text.memory.ghost_name ≡ c.new-text.result.memory.ghost_name = ap (λ (x : Content). x.lender) c.report_trace.ensures.said in
    let said = c.report_trace.ensures.said ∙ ap (with_words ws) c.new-text.ensures.content in
    let long = length_over ws m _ after said c.length_of.result c.length_of.ensures in
    record {
      written = written_over ws m _ after said c.length_of.result c.length_of.ensures (search (rules, lender));
      longest = λ room. length_of_fitting ws m c.length_of.result long (let short = c.report_trace.ensures.short in omega (arith, short, room));
      none_where_too_long = λ z. none_where_too_long ws m c.length_of.result (report_not_empty c.args.bytes.now) long z;
    }
