use Rattle.docket.proofs.step.Step.cost.Goals as goal

pub returns-clause-value : goal.returns-clause-value
returns-clause-value c = c.from.ensures
