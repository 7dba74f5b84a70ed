use Rattle.std.proofs.Common.{sym, ◌∙◌}
use Rattle.docket.proofs.Judged.{judged_beyond, judged_placed, judged_early, judged_above, judged_within}
use Rattle.docket.proofs.docket.Docket.judge.Goals as goal

pub returns-then-operation-ledger : goal.returns-then-operation-ledger
returns-then-operation-ledger g c = judged_beyond _ _ _ _ _ _ _ c.if-operation-ledger.true

pub returns-then-entry : goal.returns-then-entry
returns-then-entry g c = judged_placed _ _ _ _ _ _ _ c.if-operation-ledger.false c.if-entry.true

pub returns-in-Some : goal.returns-in-Some
returns-in-Some g c = judged_early _ _ _ _ _ _ _ c.if-operation-ledger.false c.if-entry.false c.in-Some.waiting c.in-Some.ensures

pub returns-then-rank_error-ledger : goal.returns-then-rank_error-ledger
returns-then-rank_error-ledger g c =
    judged_above _ _ _ _ _ _ _ c.in_ok-rank_error.rank_error (sym c.in_ok-rank_error.ensures.ok_part ∙ c.rank_of-found.ensures) c.if-operation-ledger.false c.if-entry.false c.in_default.ensures c.if-rank_error-ledger.true

pub returns : goal.returns
returns g c =
    judged_within _ _ _ _ _ _ _ c.in_ok-rank_error.rank_error (sym c.in_ok-rank_error.ensures.ok_part ∙ c.rank_of-found.ensures) c.if-operation-ledger.false c.if-entry.false c.in_default.ensures c.if-rank_error-ledger.false
