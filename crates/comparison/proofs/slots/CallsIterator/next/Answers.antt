use Rattle.std.proofs.Common.{◌≡◌, rules, None}
use Rattle.comparison.specs.Calls.{front_docket_call, call_said}
use Rattle.comparison.proofs.Fronts.{all_end, all_behind, docket_shorter}
use Rattle.comparison.proofs.slots.CallsIterator.next.Goals as goal

pub returns-in_err-call-clause-steps : goal.returns-in_err-call-clause-steps
returns-in_err-call-clause-steps c =
    let none : front_docket_call c.args.self.now.0.now ≡ None = search rules in
    let all = all_end front_docket_call c.args.self.now.0.now none in
    search rules

pub returns-clause-steps : goal.returns-clause-steps
returns-clause-steps c =
    all_behind front_docket_call docket_shorter c.args.self.now.0.now (call_said c.in_ok-call.call, c.in_ok-call.behind.now) (search rules)

pub returns-clause-goes : goal.returns-clause-goes
returns-clause-goes c =
    let all = all_behind front_docket_call docket_shorter c.args.self.now.0.now (call_said c.in_ok-call.call, c.in_ok-call.behind.now) (search rules) in
    search rules
