use Rattle.std.proofs.Common.{List, ℕ, ap, ◌∙◌, rules}
use Rattle.giving.specs.Fronts.{over}
use Rattle.docket.specs.declared.step.Step.{Step}
use Rattle.docket.proofs.Placing.{order_ranks}
use Rattle.docket.proofs.ledger.Ledger.write_ranks.Goals as goal

pub returns : goal.returns
returns c =
    c.write_over.ensures (λ (s : Step). s.rank) (λ x r h. search rules)
    ∙ ap (λ (rs : List ℕ). over rs c.args.buffer.now) (order_ranks c.args.self.now c.order.result.now c.order.ensures.steps)
