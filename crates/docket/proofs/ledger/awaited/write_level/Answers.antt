use Rattle.std.proofs.Common.{◌≡◌, ◌-◌, refl, ◌∙◌, ⊎_elim, arith, length-set}
use Rattle.std.proofs.lemmas.Bool.{cases_eq}
use Rattle.std.proofs.lemmas.List.{get_or-set_other}
use Rattle.docket.proofs.Awaiting.{put_here, put_there}
use Rattle.docket.proofs.ledger.awaited.write_level.Goals as goal

pub loop-place-init : goal.loop-place-init
loop-place-init c = (c.requires.long, c.requires.ordered, λ q low high. absurd (omega arith), λ q h. refl, λ q h. refl)

pub loop-place-preserved : goal.loop-place-preserved
loop-place-preserved c =
    let ts = c.loop-place.least in
    let was = c.loop-place.invariant in
    let p = c.loop-place.place - 1 in
    let v = c.lesser_below.result in (
      length-set ts p v ∙ was.0,
      omega arith,
      λ q low high.
          ⊎_elim
          (λ (e : q ≡ p). put_here ts p v (omega arith) (omega (arith, was.0)) c.lesser_below.ensures q e)
          (λ (e : q ≡ p → ⊥). put_there ts p v q e (λ z. omega arith) (omega arith) (was.2 q (omega (arith, e)) high))
          (cases_eq q p),
      λ q h. get_or-set_other ts p q v 0 (λ z. omega arith) ∙ was.3 q (omega arith),
      λ q h. get_or-set_other ts p q v 0 (λ z. omega arith) ∙ was.4 q h,
    )

pub returns : goal.returns
returns c =
    let was = c.loop-place.invariant in
    record {
      long = was.0;
      lesser = λ q low high. was.2 q (omega arith) high;
      before = λ q h. was.3 q (omega (arith, was.1));
      after = was.4;
    }
