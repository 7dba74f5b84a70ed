-- The law over every list of calls. Assumes nothing.
use Rattle.std.proofs.Common.{◌≡◌, ℕ, List, [], ◌∷◌, ◌++◌, length, is_ok, None, Ok, Err, sym, ap, ◌∙◌, subst, ⊎_elim}
use Rattle.giving.specs.Lists.{SeatRule}
use Rattle.calls.specs.declared.fault.DocketFault.TheVariants.{AboveBound}
use Rattle.calls.specs.declared.certificate.Certificate.{Certificate}
use Rattle.order.specs.declared.operation.Paired.{Paired}
use Rattle.order.specs.Orders.{Placed}
use Rattle.order.proofs.AddUp.{add_up}
use Rattle.order.proofs.InTime.{placed_in_time_order}
use Rattle.calls.specs.Faults.{code_of}
use Rattle.calls.specs.Rules.{Run, run_of, written}
use Rattle.calls.specs.Calls.{Call, run, to_run, answer_for, answers_for, placed_by}
use Rattle.calls.specs.Meanings.{Granted}
use Rattle.calls.specs.Laws.{LawOfCalls}
use Rattle.calls.proofs.Judged.{means, answer_is}
use Rattle.calls.proofs.Steps.{placed_all}
use Rattle.calls.proofs.Grants.{short_false, granted_is, granted_long, granted_true, true_granted}
use Rattle.calls.proofs.RunsAndLifts.{whole}
use Rattle.calls.proofs.Granted.{costs_at, is_granted}
use Rattle.calls.proofs.Sessions.{session, no_other, placed_append, answers_append}

-- the whole law over a list of calls
pub the_law : (seat : SeatRule) (ops : List Paired) (k : ℕ) (calls : List Call) → LawOfCalls seat ops k calls
the_law seat ops k calls =
    let p : List ℕ = placed_by seat ops k [] calls in
    let h : Placed seat ops k p = placed_all seat ops k calls [] tt in
    record {
      rules = λ before d later e.
          ap (answers_for seat ops k []) e
          ∙ (answers_append seat ops k before (d ∷ later) []
          ∙ ap (λ (l : List ℕ). answers_for seat ops k [] before ++ (answer_for seat ops k (placed_by seat ops k [] before) d ∷ answers_for seat ops k l later)) (sym (placed_append seat ops k before (d ∷ []) [])));
      session = session seat ops k calls [] tt;
      only_session = λ answers q s. no_other seat ops k s;
      acceptable = h;
      judged = λ x a. (means seat ops k p x a, answer_is seat ops k p x a);
      granted = λ b s. (granted_true seat ops k p h b, λ t. ap is_ok (true_granted seat ops k p t b s));
      whole = λ e o t.
          let w : run_of seat ops k p 0 o ≡ record { steps = o; new = length ops; stopped = None } = ap (λ (l : List ℕ). run_of seat ops k l 0 o) e ∙ whole seat ops k o t in
          (ap (λ (R : Run). to_run R.new (code_of R.stopped)) w, placed_append seat ops k calls (run o ∷ []) [] ∙ ap (λ (R : Run). R.steps) w);
      answered = λ x r. ⊎_elim (λ e. (means seat ops k p x (Ok r) e).1) (λ e. (means seat ops k p x (Err (AboveBound (length p) r)) e).1.2);
      step_costs = λ u v x e. costs_at seat ops k p u v x h e;
      sums = add_up seat ops k p h;
      certified = λ b v e.
          subst (λ (z : Certificate). Granted seat ops k p b z (written seat ops p b (Ok z))) (sym (granted_is seat ops p b v e))
          (is_granted seat ops k p b (granted_true seat ops k p h b (ap is_ok e)) (short_false (length ops) b (granted_long seat ops p b (ap is_ok e))));
      in_time = placed_in_time_order seat ops k p h;
    }
