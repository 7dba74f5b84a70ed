use Rattle.std.proofs.Common.{◌∙◌, ap, None, [], List, ℕ, Bor}
use Rattle.std.proofs.lemmas.Iterator.{items_from_drains}
use Rattle.std.proofs.lemmas.Iterator.Splits.{YieldsList-from_lines}
use Rattle.std.specs.Option.{unwrap_or, option_map}
use Rattle.std.specs.List.{last_or}
use Rattle.comparison.proofs.Lasts.{now_unwrap, last_map}
use Rattle.comparison.proofs.traces.last_line.Goals as goal

pub returns : goal.returns
returns c =
    let ran = c.last.ensures.ran in
    let all = items_from_drains ran.0 (ran.1.1.0, ran.1.1.1, λ w. (ran.1.0, ran.1.1.2)) (YieldsList-from_lines {s = c.lines.result} c.args.text.now c.lines.ensures.rest) in
    ap (λ (z : Bor (List ℕ)). z.now) c.unwrap_or.ensures
    ∙ now_unwrap c.last.result _
    ∙ ap (λ o. unwrap_or o []) (ap (option_map (λ (z : Bor (List ℕ)). z.now)) ran.2 ∙ last_map (λ (z : Bor (List ℕ)). z.now) None ran.0 ∙ ap (last_or None) all)
