use Rattle.std.proofs.Common.{◌+◌, ◌-◌, cond, eqb, ltb, refl, sym, ap, ◌∙◌, arith}
use Rattle.std.proofs.lemmas.Grind.{common_steps}
use Rattle.std.proofs.lemmas.List.Recursion.{is_sum_by}
use Rattle.giving.specs.Lists.{times}
use Rattle.giving.proofs.Counts.{times_insert, times_without}
use Rattle.giving.proofs.Places.{stands_some}
use Rattle.giving.proofs.times_of.Goals as goal

pub returns-clause-value : goal.returns-clause-value
returns-clause-value c = grind (arith, common_steps, is_sum_by (times c.args.code) (λ x. cond (eqb c.args.code x) 1 0) refl (λ _ _. refl))

pub returns-clause-some : goal.returns-clause-some
returns-clause-some c = ap (ltb 0) (returns-clause-value c) ∙ stands_some c.args.code c.args.list.now

pub returns-clause-changed : goal.returns-clause-changed
returns-clause-changed c =
    let a = c.args.code in
    let L = c.args.list.now in
    let e = sym (returns-clause-value c) in
    record {
      taken = λ d. times_without a d L ∙ ap (λ n. n - cond (eqb a d) 1 0) e;
      put_in = λ d s. times_insert a d s L ∙ ap (λ n. cond (eqb a d) 1 0 + n) e;
    }
