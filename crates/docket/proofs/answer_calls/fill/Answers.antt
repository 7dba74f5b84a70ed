use Rattle.std.proofs.Common.{◌≡◌, ℕ, Result, sym, refl, ap, subst, ◌∙◌}
use Rattle.calls.specs.declared.certificate.Certificate.{Certificate}
use Rattle.calls.specs.declared.fault.DocketFault.{DocketFault}
use Rattle.calls.specs.Rules.{Buffers, joined}
use Rattle.calls.specs.Calls.{run, certify, to_place, to_run, to_lift, to_certify}
use Rattle.docket.specs.declared.slot.Slot.{Slot}
use Rattle.docket.specs.declared.slot.Slot.TheVariants.{Place, Run, Lift}
use Rattle.docket.specs.Buffers.{buffers_of, owned}
use Rattle.docket.specs.Slots.{Keeps, call_of}
use Rattle.docket.specs.Agreed.{steps_in, running, writing, replying, leaving}
use Rattle.docket.proofs.Fronts.{same_buffers}
use Rattle.docket.proofs.AnsweredSlots.{keeps_certify, owned_over}
use Rattle.docket.proofs.answer_calls.fill.Goals as goal

pub returns-in-Place : goal.returns-in-Place
returns-in-Place g c =
    let d = c.args.docket.now in
    let e = c.place.ensures in
    let call = sym (ap call_of c.in-Place.is) in
    record {
      answer = ap to_place e.answer ∙ ap (replying g.H.Holder d) call;
      steps = e.steps ∙ ap (joined (steps_in d) c.in-Place.operation) e.answer ∙ ap (leaving g.H.Holder d) call;
      table = e.table;
      bound = e.bound;
      kept = subst (λ (s : Slot). Keeps s (Place c.in-Place.operation c.place.result)) (sym c.in-Place.is) refl;
    }

pub returns-in-Run : goal.returns-in-Run
returns-in-Run g c =
    let d = c.args.docket.now in
    let e = c.run-placed.ensures in
    let xs = c.deref.result.now in
    let order = ap run c.deref.ensures.value in
    let call = sym (ap call_of c.in-Run.is) in
    record {
      answer =
          ap (λ (n : ℕ). to_run n c.run-placed.result.1) e.answer.0 ∙ ap (to_run (running g.H.Holder d xs).new) e.answer.1
          ∙ ap (replying g.H.Holder d) (order ∙ call);
      steps = e.steps ∙ ap (leaving g.H.Holder d) (order ∙ call);
      table = e.table;
      bound = e.bound;
      kept = subst (λ (s : Slot). Keeps s (Run c.in-Run.order c.run-placed.result.0 c.run-placed.result.1)) (sym c.in-Run.is) refl;
    }

pub returns-in-Lift : goal.returns-in-Lift
returns-in-Lift g c =
    let d = c.args.docket.now in
    let e = c.lift.ensures in
    let call = sym (ap call_of c.in-Lift.is) in
    record {
      answer = ap to_lift e.answer ∙ ap (replying g.H.Holder d) call;
      steps = e.steps ∙ ap (leaving g.H.Holder d) call;
      table = e.table;
      bound = e.bound;
      kept = subst (λ (s : Slot). Keeps s (Lift c.lift.result)) (sym c.in-Lift.is) refl;
    }

pub returns-in-Certify : goal.returns-in-Certify
returns-in-Certify g c =
    let d = c.args.docket.now in
    let e = c.certify_into.ensures in
    let r = c.certify_into.result in
    let o = c.in-Certify.buffers in
    let b : Buffers = buffers_of c.deref_mut.result.now c.deref_mut-in-Certify.result.now c.deref_mut-in-Certify-2.result.now in
    let lent : b ≡ owned o =
    same_buffers c.deref_mut.ensures.value c.deref_mut-in-Certify.ensures.value c.deref_mut-in-Certify-2.ensures.value in
    let new =
    owned_over o c.certify_into.new.ranks c.certify_into.new.instants c.certify_into.new.latenesses
    (c.certify_into.auto.ranks ∙ c.deref_mut.ensures.len) (c.certify_into.auto.instants ∙ c.deref_mut-in-Certify.ensures.len) (c.certify_into.auto.latenesses ∙ c.deref_mut-in-Certify-2.ensures.len) in
    let call = sym (ap call_of c.in-Certify.is) in
    record {
      answer =
          ap (to_certify r) (new ∙ e.written) ∙ ap (λ (v : Result Certificate DocketFault). to_certify v (writing g.H.Holder d b v)) e.answer
          ∙ ap (replying g.H.Holder d) (ap certify lent ∙ call);
      steps = ap (leaving g.H.Holder d) call;
      table = refl;
      bound = refl;
      kept = keeps_certify c.args.slot.now o _ c.in-Certify.answer r c.in-Certify.is;
    }
