use Rattle.std.proofs.Common.{◌≡◌, ◌≤◌, length, get_or, sym, ap, ◌∙◌, ⊎_elim, arith, rules}
use Rattle.std.proofs.lemmas.List.{length-take}
use Rattle.std.specs.Iterator.Adapters.{enumerate_count}
use Rattle.sheet.specs.Sheets.{entered}
use Rattle.text.specs.Contents.{content, with_words}
use Rattle.text.proofs.Contents.{nothing_said}
use Rattle.report.specs.Lines.{up_to, line_of_late, late_of, late_of_method, late_at}
use Rattle.report.proofs.Lengths.{lates_short}
use Rattle.report.proofs.Listings.{one_more, none_more, taken, at_end, not_added}
use Rattle.report.proofs.lines.say_lates.Goals as goal

pub loop-number-init : goal.loop-number-init
loop-number-init g c =
    let none : enumerate_count c.into_iter-number-iterator.result ≡ 0 = search rules in
    let was = content c.args.text.now in
    record {
      operations = search rules;
      latenesses = search rules;
      within = omega (arith, none);
      said = sym (nothing_said was) ∙ ap (λ n. with_words (up_to n (late_at (entered c.args.sheet.now) c.args.latenesses.now)) was) (sym none);
    }

pub loop-number-preserved-in-Add : goal.loop-number-preserved-in-Add
loop-number-preserved-in-Add g c =
    let os = entered c.args.sheet.now in
    let lates = c.args.latenesses.now in
    let i = c.loop-number.invariant in
    let s = c.in-Some.ensures.steps in
    let n = enumerate_count c.loop-number.number-iterator in
    let o = taken os _ _ n _ c.in-Some.op.now i.operations s.0.0 s.2 in
    let t = taken lates _ _ n _ c.in-Some.late.now i.latenesses s.0.1 s.2 in
    record {
      operations = o.left;
      latenesses = t.left;
      within = omega (arith, o.below, s.2);
      said = one_more (late_at os lates) n _ s.2 (content c.args.text.now) i.said (line_of_late n c.in-Some.late.now)
          (ap (late_of n (get_or lates n 0)) o.got ∙ ap (λ m. late_of_method n m c.in-Some.op.now.method) (t.at 0) ∙ ap (late_of_method n c.in-Some.late.now) c.in-Add.is)
          (c.say.ensures ∙ ap (λ m. with_words (line_of_late m c.in-Some.late.now) (content c.loop-number.text)) s.1);
    }

pub loop-number-preserved : goal.loop-number-preserved
loop-number-preserved g c =
    let os = entered c.args.sheet.now in
    let lates = c.args.latenesses.now in
    let i = c.loop-number.invariant in
    let s = c.in-Some.ensures.steps in
    let n = enumerate_count c.loop-number.number-iterator in
    let o = taken os _ _ n _ c.in-Some.op.now i.operations s.0.0 s.2 in
    let t = taken lates _ _ n _ c.in-Some.late.now i.latenesses s.0.1 s.2 in
    record {
      operations = o.left;
      latenesses = t.left;
      within = omega (arith, o.below, s.2);
      said = none_more (late_at os lates) n _ s.2 (content c.args.text.now) i.said
          (ap (late_of n (get_or lates n 0)) o.got ∙ not_added n (get_or lates n 0) c.in-Some.op.now.method c.in_default.not-Add);
    }

pub returns-clause-said : goal.returns-clause-said
returns-clause-said g c =
    let i = c.loop-number.invariant in
    let n = enumerate_count c.loop-number.number-iterator in
    let all : length (entered c.args.sheet.now) ≤ enumerate_count c.loop-number.number-iterator =
    ⊎_elim (λ x. at_end (entered c.args.sheet.now) _ n i.operations x.1.0)
    (λ x. let z = at_end c.args.latenesses.now _ n i.latenesses x.1.0 in omega (arith, c.requires))
    c.in-None.ensures.steps.0 in
    let end : enumerate_count c.loop-number.number-iterator ≡ length (entered c.args.sheet.now) = omega (arith, i.within) in
    i.said ∙ ap (λ m. with_words (up_to m (late_at (entered c.args.sheet.now) c.args.latenesses.now)) (content c.args.text.now)) end

pub returns-clause-short : goal.returns-clause-short
returns-clause-short g c =
    let sheet = c.args.sheet.now in
    let few : length (entered c.args.sheet.now) ≤ 1024 = omega (arith, length-take sheet.count sheet.records.now, sheet.bounded) in
    lates_short (entered sheet) c.args.latenesses.now few (λ i. omega (arith, c.type_inv.latenesses i))
