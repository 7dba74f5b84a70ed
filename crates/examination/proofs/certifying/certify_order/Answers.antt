use Rattle.std.proofs.Common.{◌≡◌, [], Some, None, Ok, Err, sym, ap, ◌∙◌}
use Rattle.std.proofs.lemmas.Result.{err_from_is_err_and}
use Rattle.calls.specs.Rules.{Run, run_of, certify_answer}
use Rattle.docket.specs.Buffers.{held}
use Rattle.docket.specs.Pairs.{sheet_ops}
use Rattle.examination.specs.Orders.{unless_stopped, refused_as, order_outcome, order_answer, order_written}
use Rattle.examination.proofs.Grants.{granted_exactly, certificates_are_true}
use Rattle.examination.proofs.Runs.{run_is, certified_answer}
use Rattle.examination.proofs.certifying.certify_order.Goals as goal
use Rattle.examination.proofs.certifying.certify_order.Goals.{After-certify}

pub returns-in-Some-clause-granted_exactly_when_true_order : goal.returns-in-Some-clause-granted_exactly_when_true_order
returns-in-Some-clause-granted_exactly_when_true_order g c =
    let seat = g.H.Holder.seat in
    let ops = sheet_ops g.I.Item.number c.args.sheet.now in
    let k = c.args.proposal.now.k in
    let p = c.args.proposal.now.order.now in
    let b = held c.args.buffers.now in
    let o = c.open-docket.ensures in
    let r = c.place_all-stopped.ensures in
    let same = run_is g.H.Holder ops k p b c.open-docket.result o.table o.bound o.steps in
    let stopped : (run_of seat ops k [] 0 p).stopped ≡ Some c.in-Some.fault = ap (λ (z : Run). z.stopped) (sym same) ∙ sym r.stopped ∙ c.in-Some.is in
    λ long. granted_exactly seat ops k p b long (Err c.into.result) (ap Err c.into.ensures ∙ sym (ap (λ z. refused_as (unless_stopped z (certify_answer seat ops p b))) stopped))

-- after a run that nothing stopped, the answer to certify and what it writes are those of the order
outcome : (g : _) (c : After-certify g) → c.place_all-stopped.result.1 ≡ None →
    (c.certify.result ≡ order_outcome g.H.Holder.seat (sheet_ops g.I.Item.number c.args.sheet.now) c.args.proposal.now.k c.args.proposal.now.order.now (held c.args.buffers.now))
    × (held c.certify.new.buffers ≡ order_written g.H.Holder.seat (sheet_ops g.I.Item.number c.args.sheet.now) c.args.proposal.now.k c.args.proposal.now.order.now (held c.args.buffers.now))
outcome g c none =
    let o = c.open-docket.ensures in
    let r = c.place_all-stopped.ensures in
    let e = c.certify.ensures in
    certified_answer g.H.Holder (sheet_ops g.I.Item.number c.args.sheet.now) c.args.proposal.now.k c.args.proposal.now.order.now (held c.args.buffers.now)
    c.open-docket.result c.place_all-stopped.new.self c.certify.result (held c.certify.new.buffers) o.table o.bound o.steps (sym r.stopped ∙ none) r.table r.steps e.answer e.written

pub returns-in_err-certify : goal.returns-in_err-certify
returns-in_err-certify g c =
    let ops = sheet_ops g.I.Item.number c.args.sheet.now in
    let p = c.args.proposal.now in
    let b = held c.args.buffers.now in
    let a = outcome g (goal.at.returns-in_err-certify g c).After-certify c.in_default.is in
    let q = err_from_is_err_and c.from_residual.result c.from_residual.ensures.1 in
    let said : c.from_residual.result ≡ order_answer g.H.Holder.seat ops p.k p.order.now b = q.1 ∙ ap Err q.2 ∙ ap refused_as (sym c.in_err-certify.was ∙ a.0) in
    record {
      answer = said;
      written = a.1;
      lenders = c.certify.ensures.lenders;
      granted_exactly_when_true_order = λ long. granted_exactly g.H.Holder.seat ops p.k p.order.now b long c.from_residual.result said;
      granted_certificates_are_true = certificates_are_true g.H.Holder.seat ops p.k p.order.now b c.from_residual.result (held c.certify.new.buffers) said a.1;
    }

pub returns : goal.returns
returns g c =
    let ops = sheet_ops g.I.Item.number c.args.sheet.now in
    let p = c.args.proposal.now in
    let b = held c.args.buffers.now in
    let a = outcome g (goal.at.returns g c).After-certify c.in_default.is in
    let said = ap refused_as (sym c.in_ok-certify.was ∙ a.0) in
    record {
      answer = said;
      written = a.1;
      lenders = c.certify.ensures.lenders;
      granted_exactly_when_true_order = λ long. granted_exactly g.H.Holder.seat ops p.k p.order.now b long (Ok c.in_ok-certify.field-0) said;
      granted_certificates_are_true = certificates_are_true g.H.Holder.seat ops p.k p.order.now b (Ok c.in_ok-certify.field-0) (held c.certify.new.buffers) said a.1;
    }
