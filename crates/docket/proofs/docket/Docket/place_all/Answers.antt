use Rattle.std.proofs.Common.{◌≡◌, ℕ, [], ◌∷◌, ◌++◌, length, get_or, sym, refl, ap, ◌∙◌, arith}
use Rattle.std.proofs.lemmas.List.{length_push}
use Rattle.calls.specs.Rules.{Run, joined}
use Rattle.docket.specs.InAgreement.{ops_of, steps_of}
use Rattle.docket.proofs.Runs.{run_ended, run_stopped, run_more}
use Rattle.docket.proofs.Placing.{long_steps}
use Rattle.docket.proofs.docket.Docket.place_all.Goals as goal

pub loop-placed-init : goal.loop-placed-init
loop-placed-init g c = (omega arith, refl, refl, refl)

pub overflow_cast-result : goal.overflow_cast-result
overflow_cast-result g c = omega (arith, long_steps c.loop-placed.self.ledger)

pub returns-in-Err : goal.returns-in-Err
returns-in-Err g c =
    let l = c.loop-placed.self.ledger in
    let i = c.loop-placed.placed in
    let was = c.loop-placed.invariant in
    let e = c.place.ensures in
    let ran = was.3 ∙ run_stopped g.H.Holder.seat (ops_of l) l.k (steps_of l) i c.args.order.now c.loop-placed-test.true c.place.result c.in-Err.fault e.answer c.in-Err.is in
    record {
      count = sym (ap (λ (r : Run). r.new) ran);
      stopped = sym (ap (λ (r : Run). r.stopped) ran);
      steps = e.steps ∙ ap (joined (steps_of l) (get_or c.args.order.now i 0)) c.in-Err.is ∙ sym (ap (λ (r : Run). r.steps) ran);
      table = e.table ∙ was.1;
      bound = e.bound ∙ was.2;
    }

pub loop-placed-preserved : goal.loop-placed-preserved
loop-placed-preserved g c =
    let l = c.loop-placed.self.ledger in
    let m = c.place.new.self.ledger in
    let i = c.loop-placed.placed in
    let x = get_or c.args.order.now i 0 in
    let was = c.loop-placed.invariant in
    let e = c.place.ensures in
    let joins : steps_of m ≡ steps_of l ++ x ∷ [] = e.steps ∙ ap (joined (steps_of l) x) c.in_default.is in (
      omega (arith, ap (length {A = ℕ}) joins, length_push (steps_of l) x),
      e.table ∙ was.1,
      e.bound ∙ was.2,
      was.3
          ∙ run_more g.H.Holder.seat (ops_of l) l.k (steps_of l) i c.args.order.now c.loop-placed-test.true c.place.result c.in_default.field-0 (ops_of m) m.k (steps_of m) e.answer c.in_default.is e.table e.bound joins,
    )

pub overflow_cast-result-2 : goal.overflow_cast-result-2
overflow_cast-result-2 g c = omega (arith, long_steps c.loop-placed.self.ledger)

pub returns : goal.returns
returns g c =
    let l = c.loop-placed.self.ledger in
    let i = c.loop-placed.placed in
    let was = c.loop-placed.invariant in
    let ran = was.3 ∙ run_ended g.H.Holder.seat (ops_of l) l.k (steps_of l) i c.args.order.now c.loop-placed-test.false in
    record {
      count = omega (arith, ap (λ (r : Run). r.new) ran);
      stopped = sym (ap (λ (r : Run). r.stopped) ran);
      steps = sym (ap (λ (r : Run). r.steps) ran);
      table = was.1;
      bound = was.2;
    }
