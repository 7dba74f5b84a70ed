use Rattle.std.proofs.Common.{◌++◌, arith, length-append}
use Rattle.sheet.specs.Sheets.{entered}
use Rattle.text.specs.Contents.{content}
use Rattle.text.proofs.Contents.{then_said}
use Rattle.report.specs.Lines.{lines_of_steps, lines_of_lates, line_of_certified}
use Rattle.report.proofs.verdict.say_certificate.Goals as goal

pub returns : goal.returns
returns g c =
    let b = c.args.buffers.now in
    let steps = lines_of_steps c.args.proposal.now.order.now b.ranks.now b.instants.now in
    let lates = lines_of_lates (entered c.args.sheet.now) b.latenesses.now in
    let last = line_of_certified c.args.proposal.now.k c.args.certificate in
    record {
      said =
          then_said steps (lates ++ last) (content c.args.text.now) c.say_steps.ensures.said
          (then_said lates last (content c.say_steps.new.text) c.say_lates.ensures.said c.say.ensures.said);
      short = λ few. omega (arith, length-append steps (lates ++ last), length-append lates last, c.say_steps.ensures.short few, c.say_lates.ensures.short, c.say.ensures.short);
    }
