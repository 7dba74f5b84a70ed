use Rattle.sheet.specs.Sheets.{entered}
use Rattle.docket.specs.Pairs.{paired_all}
use Rattle.docket.proofs.Entered.{Written}
use Rattle.docket.proofs.ledger.copying.copied.Given as goal

abbrev pub invariant-loop-number : goal.invariant-loop-number
invariant-loop-number g l = Written (paired_all g.I.Item.number (entered l.sheet)) l.number l.entries
