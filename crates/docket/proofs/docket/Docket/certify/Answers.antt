use Rattle.docket.proofs.Certified.{cert_missing, cert_short, cert_ok, cert_written}
use Rattle.docket.specs.Buffers.{held}
use Rattle.docket.proofs.docket.Docket.certify.Goals as goal

pub returns-in-Some-clause-answer : goal.returns-in-Some-clause-answer
returns-in-Some-clause-answer g c = cert_missing g.H.Holder.seat c.args.self.now.ledger (held c.args.buffers.now) c.in-Some.unplaced c.in-Some.ensures

pub returns-then-is_too_short-clause-answer : goal.returns-then-is_too_short-clause-answer
returns-then-is_too_short-clause-answer g c = cert_short g.H.Holder.seat c.args.self.now.ledger (held c.args.buffers.now) c.in_default.ensures c.if-is_too_short.ensures

pub returns-clause-answer : goal.returns-clause-answer
returns-clause-answer g c = cert_ok g.H.Holder.seat c.args.self.now.ledger (held c.args.buffers.now) c.sum_up.result _ _ c.in_default.ensures c.if-is_too_short.ensures c.sum_up.ensures c.args.self.now.agreed

pub returns-clause-written : goal.returns-clause-written
returns-clause-written g c =
    cert_written g.H.Holder.seat c.args.self.now.ledger _ _ _ _ _ _ c.sum_up.result _ _ c.write_ranks.ensures c.write_instants.ensures c.write_latenesses.ensures c.args.self.now.agreed
