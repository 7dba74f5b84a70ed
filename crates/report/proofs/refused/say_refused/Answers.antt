use Rattle.std.proofs.Common.{codes, arith, length-append}
use Rattle.refusal.specs.Wording.{refusal_line}
use Rattle.text.specs.Contents.{content}
use Rattle.text.proofs.Contents.{then_said}
use Rattle.report.proofs.refused.say_refused.Goals as goal

pub returns : goal.returns
returns c =
    let line = refusal_line c.args.refusal in
    record {
      said = then_said line (codes "\n") (content c.args.text.now) c.say_refusal.ensures.said c.say.ensures.content;
      short = omega (arith, length-append line (codes "\n"), c.say_refusal.ensures.short);
    }
