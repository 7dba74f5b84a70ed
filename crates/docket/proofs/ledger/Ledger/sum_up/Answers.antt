use Rattle.std.proofs.Common.{ℕ, ap, ◌∙◌}
use Rattle.calls.specs.Rules.{summed_up}
use Rattle.docket.proofs.Sums.{summed}
use Rattle.docket.proofs.Placing.{order_ranks}
use Rattle.docket.proofs.ledger.Ledger.sum_up.Goals as goal

pub returns : goal.returns
returns c =
    let order = c.order-order.result.now in
    ap (λ (v : ℕ). record { total = c.total_of_ranks.result; largest = c.largest_rank-largest.result; first = v }) c.unwrap_or.ensures
    ∙ summed order c.total_of_ranks.result c.largest_rank-largest.result c.first_with_rank-first.result c.total_of_ranks.ensures c.largest_rank-largest.ensures c.first_with_rank-first.ensures.first
    ∙ ap summed_up (order_ranks c.args.self.now order c.order-order.ensures.steps)
