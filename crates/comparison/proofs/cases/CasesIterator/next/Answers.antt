use Rattle.std.proofs.Common.{rules}
use Rattle.comparison.proofs.Files.{no_letter, no_length, no_body, whole_case}
use Rattle.comparison.proofs.cases.CasesIterator.next.Goals as goal

pub returns-in_err-letter-clause-steps : goal.returns-in_err-letter-clause-steps
returns-in_err-letter-clause-steps c =
    let none = no_letter c.args.self.now.0.now c.in_err-letter.ensures.cases in
    search rules

pub returns-in_err-length-clause-steps : goal.returns-in_err-length-clause-steps
returns-in_err-length-clause-steps c =
    let none = no_length c.in_ok-letter.ensures.cases.0 c.in_err-length.ensures.cases in
    search rules

pub returns-in_err-body-clause-steps : goal.returns-in_err-body-clause-steps
returns-in_err-body-clause-steps c =
    let none = no_body c.in_ok-letter.ensures.cases.0 c.in_ok-length.ensures.cases c.from_be_bytes.ensures c.in_err-body.ensures.cases in
    search rules

pub returns-clause-steps : goal.returns-clause-steps
returns-clause-steps c = whole_case c.in_ok-letter.ensures.cases.0 c.in_ok-length.ensures.cases c.from_be_bytes.ensures c.in_ok-body.ensures.cases

pub returns-clause-goes : goal.returns-clause-goes
returns-clause-goes c =
    let all = whole_case c.in_ok-letter.ensures.cases.0 c.in_ok-length.ensures.cases c.from_be_bytes.ensures c.in_ok-body.ensures.cases in
    search rules
