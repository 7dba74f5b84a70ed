use Rattle.record.proofs.Digits.{bytes_of_type}
use Rattle.report.proofs.Traces.{reported_exactly}
use Rattle.report.proofs.report.report_trace.Goals as goal

pub returns-then-has_few-clause-granted_exactly_when_true_order : goal.returns-then-has_few-clause-granted_exactly_when_true_order
returns-then-has_few-clause-granted_exactly_when_true_order c =
    reported_exactly c.args.bytes.now (bytes_of_type c.args.bytes.now c.type_inv.bytes) c.say_within.result c.say_within.ensures.granted

pub returns-else-has_few-clause-granted_exactly_when_true_order : goal.returns-else-has_few-clause-granted_exactly_when_true_order
returns-else-has_few-clause-granted_exactly_when_true_order c =
    reported_exactly c.args.bytes.now (bytes_of_type c.args.bytes.now c.type_inv.bytes) c.say_within-else-has_few.result c.say_within-else-has_few.ensures.granted
