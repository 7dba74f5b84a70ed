use Rattle.std.proofs.Common.{arith}
use Rattle.report.proofs.Lengths.{refusal_short}
use Rattle.report.proofs.refused.say_refusal.Goals as goal

pub returns-clause-short : goal.returns-clause-short
returns-clause-short c =
    refusal_short c.args.refusal (omega (arith, c.from.ensures, c.from.type_inv)) (omega (arith, c.from-2.ensures, c.from-2.type_inv)) (omega (arith, c.from-3.ensures, c.from-3.type_inv))
