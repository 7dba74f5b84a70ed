use Rattle.std.proofs.Common.{List, map, ◌∙◌}
use Rattle.calls.specs.Calls.{Call}
use Rattle.calls.proofs.Law.{the_law}
use Rattle.docket.specs.Pairs.{sheet_ops}
use Rattle.docket.specs.Slots.{call_of}
use Rattle.docket.proofs.AnsweredSlots.{opened_all, met}
use Rattle.docket.proofs.answer_calls.answer_calls.Goals as goal

pub returns : goal.returns
returns g c =
    let seat = g.H.Holder.seat in
    let ops = sheet_ops g.I.Item.number c.args.sheet.now in
    let k = c.args.k in
    let cs : List Call = map call_of c.args.slots.now in
    let o = c.open-docket.ensures in
    let e = c.answer_each.ensures in
    let w = opened_all seat c.open-docket.result.ledger ops k cs o.table o.bound o.steps in
    let law = the_law seat ops k cs in
    record {
      answers = e.answers ∙ w.0;
      steps = e.steps ∙ w.1;
      table = e.table ∙ o.table;
      bound = e.bound ∙ o.bound;
      kept = e.kept;
      session = met seat ops k cs _ _ (e.answers ∙ w.0) (e.steps ∙ w.1);
      only_session = law.only_session;
      every_answer_is_the_rules = law.rules;
      every_step_was_acceptable = law.acceptable;
      placing_is_judged_by_the_rules = law.judged;
      granted_exactly_when_true = law.granted;
      true_orders_run_whole = law.whole;
      answered_rank_errors_are_shortest_stretches = law.answered;
      placed_rank_errors_are_shortest_stretches = law.step_costs;
      rank_errors_add_up_to_passings_over = law.sums;
      granted_certificates_are_true = law.certified;
      placed_order_keeps_to_time = law.in_time;
    }
