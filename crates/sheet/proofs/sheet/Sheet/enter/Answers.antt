use Rattle.std.proofs.Common.{refl}
use Rattle.sheet.proofs.Entries.{Grown, grown}
use Rattle.sheet.proofs.sheet.Sheet.enter.Goals as goal
use Rattle.sheet.proofs.sheet.Sheet.enter.Goals.{In_ok-number}

-- the sheet with the operation
entered : (g : _) (c : In_ok-number g) → Grown c.args.self.now.records.now c.args.self.now.count c.args.op
entered g c =
    let s = c.args.self.now in
    grown g.I.Item.number s.records.now s.count _ c.args.op s.within s.bounded s.consistent c.in_ok-number.ensures

pub invariant_of-self : goal.invariant_of-self
invariant_of-self g c =
    let h = entered g (goal.at.invariant_of-self g c).In_ok-number in
    record { within = h.within; bounded = h.bounded; consistent = h.consistent }

pub returns-clause-loan : goal.returns-clause-loan
returns-clause-loan g c =
    let h = entered g (goal.at.returns-clause-loan g c).In_ok-number in
    record { memory = h.memory; room = h.room; lender = refl }
