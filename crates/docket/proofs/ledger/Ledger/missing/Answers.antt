use Rattle.std.proofs.Common.{◌≡◌, not, ◌∙◌, rules}
use Rattle.docket.specs.declared.entry.Entry.{Entry}
use Rattle.docket.proofs.Placing.{lowest_in_table}
use Rattle.docket.proofs.ledger.Ledger.missing.Goals as goal

pub returns : goal.returns
returns c =
    let same : c.map.result ≡ c.first_unplaced.result = search rules in
    same ∙ c.first_unplaced.ensures.first ∙ lowest_in_table c.args.self.now (λ (e : Entry). not e.placed) c.table.result.now c.table.ensures.entries
