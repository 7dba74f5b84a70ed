use Rattle.std.proofs.Common.{rules}
use Rattle.docket.specs.Buffers.{buffers_of, held}
use Rattle.exports.proofs.Outcomes.{certified_outcome}
use Rattle.exports.proofs.examiner_certify.Goals as goal

pub returns-clause-granted_certificates_are_true : goal.returns-clause-granted_certificates_are_true
returns-clause-granted_certificates_are_true c s =
    let b = buffers_of c.args.ranks.now c.args.instants.now c.args.latenesses.now in
    let e = c.certify_trace.ensures in
    certified_outcome c.args.bytes.now b (held c.certify_trace.new.buffers) c.certify_trace.result c.from.result c.from.ensures e.granted_certificates_are_true (search rules) s
