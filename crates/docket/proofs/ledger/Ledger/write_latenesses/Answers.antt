use Rattle.std.proofs.Common.{List, map, ap, ◌∙◌, rules}
use Rattle.giving.specs.Fronts.{over}
use Rattle.docket.specs.declared.entry.Entry.{Entry}
use Rattle.docket.proofs.ledger.Ledger.write_latenesses.Goals as goal

pub returns : goal.returns
returns c =
    c.write_over.ensures (λ (e : Entry). e.late) (λ x r h. search rules)
    ∙ ap (λ (es : List Entry). over (map (λ e. e.late) es) c.args.buffer.now) c.table.ensures.entries
