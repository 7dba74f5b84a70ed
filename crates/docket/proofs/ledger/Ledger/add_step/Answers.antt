use Rattle.std.proofs.Common.{◌≡◌, ℕ, ◌+◌, ◌<◌, true, List, length, take, set, sym, subst, arith, length-set}
use Rattle.std.proofs.lemmas.List.{map-set}
use Rattle.giving.specs.Lists.{Once}
use Rattle.docket.specs.declared.step.Step.{Step}
use Rattle.docket.specs.Moves.{with_flag, changed_at}
use Rattle.docket.specs.Kept.{numbers_in, StepsAreOperations, Flagged}
use Rattle.docket.proofs.PlacedSteps.{known_added, once_added, flagged_added}
use Rattle.docket.proofs.Awaiting.{awaits_flag}
use Rattle.docket.proofs.Placing.{long_numbers, unmarked, has_room}
use Rattle.docket.proofs.ledger.Ledger.add_step.Goals as goal

pub bounds-self-placed : goal.bounds-self-placed
bounds-self-placed c = omega (arith, has_room c.args.self.now c.args.operation c.requires.within c.requires.new)

pub invariant_of-self : goal.invariant_of-self
invariant_of-self c =
    let l = c.args.self.now in
    let x = c.args.operation in
    let z = unmarked l x c.requires.within c.requires.new in
    let o = has_room l x c.requires.within c.requires.new in
    let h : l.placed < length (numbers_in l.steps) = omega (arith, long_numbers l) in
    let s : set (numbers_in l.steps) l.placed x ≡ numbers_in (set l.steps l.placed (record { operation = x; rank = c.args.rank })) = sym (map-set (λ (s : Step). s.operation) l.steps l.placed (record { operation = x; rank = c.args.rank })) in
    record {
      lengths = (simp length-set l.lengths.0, simp length-set l.lengths.1);
      counts_fit = (omega arith, l.counts_fit.1);
      known = subst (λ (ss : List ℕ). StepsAreOperations l.count ss (l.placed + 1)) s (known_added (numbers_in l.steps) l.placed x h l.count l.known c.requires.within);
      once = subst (λ (ss : List ℕ). Once (take (l.placed + 1) ss)) s (once_added (numbers_in l.steps) l.placed x h l.once z);
      flagged = subst (λ (ss : List ℕ). Flagged (changed_at (with_flag true) l.entries x) l.count ss (l.placed + 1)) s (flagged_added (numbers_in l.steps) l.placed x h l.entries l.count (omega arith) l.flagged);
      ends = awaits_flag true l.awaited.least _ l.count x l.entries c.requires.within (omega arith) c.set.ensures.own c.set.ensures.others l.ends;
    }

pub returns-clause-steps : goal.returns-clause-steps
returns-clause-steps c = map-set (λ (s : Step). s.operation) c.args.self.now.steps c.args.self.now.placed _

pub returns-clause-ranks : goal.returns-clause-ranks
returns-clause-ranks c = map-set (λ (s : Step). s.rank) c.args.self.now.steps c.args.self.now.placed _
