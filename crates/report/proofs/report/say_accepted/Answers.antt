use Rattle.std.proofs.Common.{◌≤◌, length, ap, subst, ◌∙◌}
use Rattle.sheet.specs.Sheets.{entered}
use Rattle.frame.specs.Kinds.{kind_number}
use Rattle.frame.specs.Orders.{order_of}
use Rattle.frame.proofs.FirstNumbers.{front_of_first}
use Rattle.examination.specs.Kinds.{seat_of}
use Rattle.text.specs.Contents.{content, with_words}
use Rattle.report.specs.Reports.{Verdict, verdict_of_order}
use Rattle.report.proofs.report.say_accepted.Goals as goal

pub returns : goal.returns
returns g c =
    let a = c.args.accepted.now in
    let front = front_of_first g.row.N (order_of a.order) c.len.ensures c.numbers-numbers.ensures c.requires.few in
    let same = ap (verdict_of_order g.I.Item (seat_of (kind_number a.kind)) (entered c.args.sheet.now) a.k) front in
    record {
      granted = c.say_verdict.ensures.granted ∙ ap (λ (v : Verdict). v.granted) same;
      said = c.say_verdict.ensures.said ∙ ap (λ (v : Verdict). with_words v.text (content c.args.text.now)) same;
      short = subst (λ (v : Verdict). length v.text ≤ 150639) same c.say_verdict.ensures.short;
    }
