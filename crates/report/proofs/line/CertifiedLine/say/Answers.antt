use Rattle.std.proofs.Common.{arith}
use Rattle.report.specs.Lines.{line_of_certified}
use Rattle.report.proofs.Lengths.{certified_short}
use Rattle.report.proofs.line.CertifiedLine.say.Goals as goal

pub returns-clause-said : goal.returns-clause-said
unfolding line_of_certified
returns-clause-said c = rw (← c.from.ensures, ← c.from-2.ensures, ← c.from-3.ensures, ← c.from-4.ensures) c.say.ensures.content

pub returns-clause-short : goal.returns-clause-short
returns-clause-short c =
    let certificate = c.args.self.now.certificate in
    certified_short c.args.self.now.k certificate (omega (arith, c.from.ensures, c.from.type_inv)) (omega (arith, c.from-2.ensures, c.from-2.type_inv))
    (omega (arith, c.from-3.ensures, c.from-3.type_inv)) (omega (arith, c.from-4.ensures, c.from-4.type_inv))
