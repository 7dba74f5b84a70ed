use Rattle.std.proofs.Common.{arith}
use Rattle.std.proofs.lemmas.Bool.Decides.{nat_tests}
use Rattle.giving.proofs.Places.{place_le, order_after_change}
use Rattle.giving.proofs.stands_before.Goals as goal

pub returns-in-Some-Some-clause-kept : goal.returns-in-Some-Some-clause-kept
returns-in-Some-Some-clause-kept c = order_after_change c.args.one c.args.other c.args.list.now _ (grind (arith, nat_tests))

pub returns-in-Some-None-clause-kept : goal.returns-in-Some-None-clause-kept
returns-in-Some-None-clause-kept c = order_after_change c.args.one c.args.other c.args.list.now _ (grind (arith, nat_tests))

pub returns-in-None-default-clause-value : goal.returns-in-None-default-clause-value
returns-in-None-default-clause-value c = grind (arith, nat_tests, place_le c.args.other c.args.list.now)

pub returns-in-None-default-clause-kept : goal.returns-in-None-default-clause-kept
returns-in-None-default-clause-kept c = order_after_change c.args.one c.args.other c.args.list.now _ (grind (arith, nat_tests, place_le c.args.other c.args.list.now))
