use Rattle.std.proofs.Common.{◌≡◌, ◌≤◌, length, sym, refl, ap, ◌∙◌, ⊎_elim, arith, rules}
use Rattle.std.specs.Iterator.Adapters.{enumerate_count}
use Rattle.text.specs.Contents.{content, with_words}
use Rattle.text.proofs.Contents.{nothing_said}
use Rattle.report.specs.Lines.{up_to, line_of_step, step_at}
use Rattle.report.proofs.Lengths.{steps_short}
use Rattle.report.proofs.Listings.{one_more, taken, at_end}
use Rattle.report.proofs.lines.say_steps.Goals as goal

pub loop-step-init : goal.loop-step-init
loop-step-init c =
    let none : enumerate_count c.into_iter-step-iterator.result ≡ 0 = search rules in
    let was = content c.args.text.now in
    record {
      order = search rules;
      ranks = search rules;
      instants = search rules;
      within = omega (arith, none);
      said = sym (nothing_said was) ∙ ap (λ n. with_words (up_to n (step_at c.args.order.now c.args.ranks.now c.args.instants.now)) was) (sym none);
    }

pub loop-step-preserved : goal.loop-step-preserved
loop-step-preserved c =
    let i = c.loop-step.invariant in
    let s = c.in-Some.ensures.steps in
    let n = enumerate_count c.loop-step.step-iterator in
    let p = taken c.args.order.now _ _ n _ c.in-Some.operation.now i.order s.0.0.0 s.2 in
    let r = taken c.args.ranks.now _ _ n _ c.in-Some.rank.now i.ranks s.0.0.1 s.2 in
    let t = taken c.args.instants.now _ _ n _ c.in-Some.at.now i.instants s.0.1 s.2 in
    record {
      order = p.left;
      ranks = r.left;
      instants = t.left;
      within = omega (arith, p.below, s.2);
      said = one_more (step_at c.args.order.now c.args.ranks.now c.args.instants.now) n _ s.2 (content c.args.text.now) i.said
          (line_of_step n c.in-Some.operation.now c.in-Some.rank.now c.in-Some.at.now) (rw (p.at 0, r.at 0, t.at 0) refl)
          (c.say.ensures ∙ ap (λ m. with_words (line_of_step m c.in-Some.operation.now c.in-Some.rank.now c.in-Some.at.now) (content c.loop-step.text)) s.1);
    }

pub returns-clause-said : goal.returns-clause-said
returns-clause-said c =
    let i = c.loop-step.invariant in
    let n = enumerate_count c.loop-step.step-iterator in
    let all : length c.args.order.now ≤ enumerate_count c.loop-step.step-iterator =
    ⊎_elim
    (λ w. ⊎_elim (λ x. at_end c.args.order.now _ n i.order x.1.0) (λ x. let z = at_end c.args.ranks.now _ n i.ranks x.1.0 in omega (arith, c.requires.ranks)) w.1)
    (λ x. let z = at_end c.args.instants.now _ n i.instants x.1.0 in omega (arith, c.requires.instants))
    c.in-None.ensures.steps.0 in
    let end : enumerate_count c.loop-step.step-iterator ≡ length c.args.order.now = omega (arith, i.within) in
    i.said ∙ ap (λ m. with_words (up_to m (step_at c.args.order.now c.args.ranks.now c.args.instants.now)) (content c.args.text.now)) end

pub returns-clause-short : goal.returns-clause-short
returns-clause-short c few =
    steps_short c.args.order.now c.args.ranks.now c.args.instants.now few (λ i. omega (arith, c.type_inv.order i)) (λ i. omega (arith, c.type_inv.ranks i)) (λ i. omega (arith, c.type_inv.instants i))
