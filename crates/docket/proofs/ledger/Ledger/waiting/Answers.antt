use Rattle.std.proofs.Common.{◌≡◌, not, ◌&&◌, ltb, ◌∙◌, arith, rules}
use Rattle.docket.specs.declared.entry.Entry.{Entry}
use Rattle.docket.proofs.Awaiting.{none_ended}
use Rattle.docket.proofs.Placing.{lowest_in_table}
use Rattle.docket.proofs.ledger.Ledger.waiting.Goals as goal

pub returns : goal.returns
returns c =
    let same : c.map.result ≡ c.first_waiting.result = search rules in
    same ∙ c.first_waiting.ensures.first ∙ lowest_in_table c.args.self.now (λ (e : Entry). not e.placed && ltb e.paired.end c.args.start) c.table.result.now c.table.ensures.entries

pub returns-then-soonest-start : goal.returns-then-soonest-start
returns-then-soonest-start c = none_ended c.args.self.now c.args.start (omega (arith, c.soonest.ensures, c.if-soonest-start.true))
