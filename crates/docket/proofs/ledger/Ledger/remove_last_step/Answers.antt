use Rattle.std.proofs.Common.{◌-◌, ◌<◌, false, get_or, refl, arith, length-set}
use Rattle.docket.specs.declared.ledger.Ledger.{Ledger}
use Rattle.docket.specs.Kept.{numbers_in}
use Rattle.docket.proofs.PlacedSteps.{once_removed, flagged_removed}
use Rattle.docket.proofs.Awaiting.{awaits_flag}
use Rattle.docket.proofs.Placing.{no_step, long_numbers, number_at}
use Rattle.docket.proofs.ledger.Ledger.remove_last_step.Goals as goal

-- the operation of the last step
last_known : (l : Ledger) → 0 < l.placed → (get_or l.steps (l.placed - 1) no_step).operation < l.count
last_known l h = omega (arith, number_at l (l.placed - 1) (omega arith), l.known (l.placed - 1) (omega arith))

pub bounds-self-last : goal.bounds-self-last
bounds-self-last c = omega (arith, last_known c.args.self.now c.requires)

pub set-requires : goal.set-requires
set-requires c = omega (arith, last_known c.args.self.now c.requires)

pub invariant_of-self : goal.invariant_of-self
invariant_of-self c =
    let l = c.args.self.now in
    let is = number_at l (l.placed - 1) (omega arith) in
    let xn = last_known l c.requires in
    record {
      lengths = (simp length-set l.lengths.0, l.lengths.1);
      counts_fit = (omega arith, l.counts_fit.1);
      known = (λ i il. l.known i (omega arith));
      once = once_removed (numbers_in l.steps) l.placed _ c.requires (omega (arith, long_numbers l)) is l.once;
      flagged = flagged_removed (numbers_in l.steps) l.placed _ c.requires (omega (arith, long_numbers l)) is l.entries l.count (omega arith) l.once l.flagged;
      ends = awaits_flag false l.awaited.least _ l.count _ l.entries xn (omega arith) c.set.ensures.own c.set.ensures.others l.ends;
    }

pub returns-clause-entries : goal.returns-clause-entries
returns-clause-entries c = refl
