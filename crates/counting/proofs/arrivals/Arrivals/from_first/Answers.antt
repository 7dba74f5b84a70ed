use Rattle.std.proofs.Common.{◌≡◌, ◌-◌, drop, ap, ◌∙◌, length-drop, arith}
use Rattle.std.proofs.lemmas.List.{take_all}
use Rattle.counting.specs.Blocks.{used_upto}
use Rattle.counting.specs.Slots.{codes}
use Rattle.counting.proofs.Fronts.{codes_from}
use Rattle.counting.proofs.arrivals.Arrivals.from_first.Goals as goal
use Rattle.counting.proofs.arrivals.Arrivals.from_first.Goals.{then-used_before-gt0, else-used_before-gt0}

pub returns : goal.returns
returns c =
    let s = c.args.self.now.slots in
    let first = c.if-used_before-gt0.first in
    let none : used_upto s first ≡ 0 =
    elim c.if-used_before-gt0.branch [
      | then-used_before-gt0 w ↦ ap (used_upto s) w.first-is ∙ w.select.ensures.before
      | else-used_before-gt0 w ↦ ap (used_upto s) w.first-is ∙ omega arith
    ] in
    ap codes (take_all (1024 - first) (drop first s) (let l = length-drop first s in omega arith)) ∙ codes_from s first none
