use Rattle.std.proofs.Common.{ℕ, get_or, set, refl, ap, ◌∙◌, arith}
use Rattle.std.proofs.lemmas.List.{take_all}
use Rattle.giving.proofs.Counts.{below_at}
use Rattle.docket.specs.Kept.{entry_of}
use Rattle.docket.specs.Moves.{with_late, changed_all}
use Rattle.docket.proofs.Table.{changed_step}
use Rattle.docket.proofs.docket.parts.change_each.Goals as goal

pub loop-code-init : goal.loop-code-init
unfolding changed_all
loop-code-init g c = λ f h. refl

pub bounds-entries-code : goal.bounds-entries-code
bounds-entries-code g c = omega (arith, below_at 1024 c.loop-code.code-index c.args.codes.now c.requires.below (omega arith), c.requires.long)

pub loop-code-preserved : goal.loop-code-preserved
loop-code-preserved g c = λ f h.
    let cs = c.args.codes.now in
    let i = c.loop-code.code-index in
    let es = c.loop-code.entries in
    let x = get_or cs i 0 in
    let e = entry_of es x in
    changed_step (with_late f) c.args.entries.now es _ cs i x c.loop-code-test.true refl (c.loop-code.invariant f h)
    (ap (λ (v : ℕ). set es x (record { paired = e.paired; late = v; placed = e.placed })) (h _ _ c.change-entry.ensures))

pub returns : goal.returns
returns g c = λ f h. c.loop-code.invariant f h ∙ ap (changed_all (with_late f) c.args.entries.now) (take_all c.loop-code.code-index c.args.codes.now c.loop-code-test.false)
