use Rattle.std.proofs.Common.{arith}
use Rattle.order.proofs.AddUp.{add_up}
use Rattle.order.proofs.Stretches.{cost_of}
use Rattle.order.proofs.Whole.{placed_of_true, true_of_placed}
use Rattle.order.proofs.Earliest.{earliest_below}
use Rattle.order.proofs.InTime.{earliest_admits}
use Rattle.order.proofs.Strictly.{strict_of_true, true_of_strict}
use Rattle.order.proofs.Growing.{one_more_step}
use Rattle.order.proofs.Lates.{never_late}
use Rattle.order.proofs.Sizes.{sizes}
use Rattle.order.proofs.laws.orders_keep_their_laws.Goals as goal

pub returns : goal.returns
returns c = record {
  sums = add_up;
  stretches = cost_of;
  whole = λ seat ops k p. (placed_of_true seat ops k p, true_of_placed seat ops k p);
  earliest = λ ops p ts i. (earliest_admits ops p ts i, earliest_below ops 0 0 p ts (omega arith) i);
  growing = one_more_step;
  adds_alone = never_late;
  small = sizes;
  strict = λ seat ops p. (strict_of_true seat ops p, true_of_strict seat ops p);
}
