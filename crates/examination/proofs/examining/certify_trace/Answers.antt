use Rattle.record.proofs.Digits.{bytes_of_type}
use Rattle.docket.specs.Buffers.{held}
use Rattle.examination.proofs.TrueTraces.{examined_exactly, examined_certified}
use Rattle.examination.proofs.examining.certify_trace.Goals as goal

pub returns-then-has_few-clause-granted_exactly_when_true_order : goal.returns-then-has_few-clause-granted_exactly_when_true_order
returns-then-has_few-clause-granted_exactly_when_true_order c =
    let bytes = bytes_of_type c.args.bytes.now c.type_inv.bytes in
    examined_exactly c.args.bytes.now bytes (held c.args.buffers.now) c.certify_within.result c.certify_within.ensures.answer

pub returns-else-has_few-clause-granted_exactly_when_true_order : goal.returns-else-has_few-clause-granted_exactly_when_true_order
returns-else-has_few-clause-granted_exactly_when_true_order c =
    let bytes = bytes_of_type c.args.bytes.now c.type_inv.bytes in
    examined_exactly c.args.bytes.now bytes (held c.args.buffers.now) c.certify_within-else-has_few.result c.certify_within-else-has_few.ensures.answer

pub returns-then-has_few-clause-granted_certificates_are_true : goal.returns-then-has_few-clause-granted_certificates_are_true
returns-then-has_few-clause-granted_certificates_are_true c =
    let bytes = bytes_of_type c.args.bytes.now c.type_inv.bytes in
    let e = c.certify_within.ensures in
    examined_certified c.args.bytes.now bytes (held c.args.buffers.now) c.certify_within.result e.answer (held c.certify_within.new.buffers) e.written

pub returns-else-has_few-clause-granted_certificates_are_true : goal.returns-else-has_few-clause-granted_certificates_are_true
returns-else-has_few-clause-granted_certificates_are_true c =
    let bytes = bytes_of_type c.args.bytes.now c.type_inv.bytes in
    let e = c.certify_within-else-has_few.ensures in
    examined_certified c.args.bytes.now bytes (held c.args.buffers.now) c.certify_within-else-has_few.result e.answer (held c.certify_within-else-has_few.new.buffers) e.written
