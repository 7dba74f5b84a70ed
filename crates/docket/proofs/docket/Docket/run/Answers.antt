use Rattle.std.proofs.Common.{ap, ◌∙◌}
use Rattle.calls.specs.Faults.{code_of}
use Rattle.docket.proofs.docket.Docket.run.Goals as goal

pub returns : goal.returns
returns g c =
    let e = c.place_all-placed.ensures in
    record { answer = (e.count, c.from.ensures ∙ ap code_of e.stopped); steps = e.steps; table = e.table; bound = e.bound }
