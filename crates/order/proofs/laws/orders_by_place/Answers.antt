use Rattle.order.specs.Times.{earliest}
use Rattle.order.proofs.Splits.{step_by_step, placed_of_steps}
use Rattle.order.proofs.InTime.{places, of_places, in_time_order, admitted, placed_in_time_order}
use Rattle.order.proofs.laws.orders_by_place.Goals as goal

pub returns : goal.returns
returns c = record {
  placed = λ seat ops k p. (step_by_step seat ops k p, placed_of_steps seat ops k p);
  instants = λ ops p ts. (places ops p ts, of_places ops p ts);
  admits = λ ops p. (λ h. in_time_order ops p h.0 h.1, λ h. (earliest ops p, admitted ops p h));
  kept = placed_in_time_order;
}
