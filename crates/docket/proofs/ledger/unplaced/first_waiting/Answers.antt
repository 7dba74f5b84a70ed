use Rattle.std.proofs.Common.{not, ◌&&◌, ltb, rules}
use Rattle.std.proofs.lemmas.Iterator.{YieldsList-from_slice}
use Rattle.std.proofs.lemmas.Iterator.Search.{position_from_yields_List}
use borrow.Author.Tests.{tests}
use Rattle.docket.specs.declared.entry.Entry.{Entry}
use Rattle.docket.proofs.ledger.unplaced.first_waiting.Goals as goal

pub returns-clause-first : goal.returns-clause-first
returns-clause-first c =
    position_from_yields_List (λ (e : Entry). not e.placed && ltb e.paired.end c.args.start) _ _ c.position.result c.position.ensures.ran (YieldsList-from_slice c.args.table.now c.iter.ensures.rest)
    (λ x b q k. search (rules, tests))
