use Rattle.std.proofs.Common.{◌+◌, arith, ◌∙◌, length-set}
use Rattle.std.proofs.lemmas.Bool.{cond_above}
use Rattle.std.proofs.lemmas.Bool.Decides.{nat_tests}
use Rattle.std.proofs.lemmas.List.{get_or-set_same, get_or-set_other}
use Rattle.docket.specs.Kept.{entry_of}
use Rattle.docket.proofs.ledger.awaited.write_ends.Goals as goal

pub loop-number-init : goal.loop-number-init
loop-number-init c = (
  c.requires.long,
  λ x h. cond_above x 0 _ _ _ (omega arith) (c.requires.last (1024 + x) (omega arith)),
  λ p h. c.requires.last p (omega arith),
)

pub loop-number-preserved : goal.loop-number-preserved
loop-number-preserved c =
    let ts = c.loop-number.least in
    let at = 1024 + c.loop-number.number in
    let v = (entry_of c.args.table.now c.loop-number.number).paired.end in
    let was = c.loop-number.invariant in (
      length-set ts at v ∙ was.0,
      λ x h. grind (arith, nat_tests, get_or-set_same ts at v 0, get_or-set_other ts at (1024 + x) v 0, was.0, was.1),
      λ p h. get_or-set_other ts at p v 0 (λ z. omega arith) ∙ was.2 p h,
    )
