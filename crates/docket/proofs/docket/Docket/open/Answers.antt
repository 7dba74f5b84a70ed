use Rattle.std.proofs.Common.{ℕ, take, ap}
use Rattle.docket.specs.declared.entry.Entry.{Entry}
use Rattle.docket.specs.Kept.{numbers_in}
use Rattle.docket.proofs.Placing.{opened_agrees}
use Rattle.docket.proofs.docket.Docket.open.Goals as goal

abbrev late_of : Entry → ℕ
late_of e = e.late

pub invariant_of-result : goal.invariant_of-result
invariant_of-result g c =
    let e = c.copied-ledger.ensures in
    record { agreed = opened_agrees g.H.Holder.seat c.copied-ledger.result _ _ e.placed (λ x. ap late_of (e.entries x)) c.clear.ensures.list c.clear.ensures.count }

pub returns : goal.returns
returns g c =
    let l = c.copied-ledger.result in
    let e = c.copied-ledger.ensures in
    record {
      agreed = opened_agrees g.H.Holder.seat l _ _ e.placed (λ x. ap late_of (e.entries x)) c.clear.ensures.list c.clear.ensures.count;
      steps = ap (λ (n : ℕ). take n (numbers_in l.steps)) e.placed;
      table = e.table;
      bound = e.bound;
    }
