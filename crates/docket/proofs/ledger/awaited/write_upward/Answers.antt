use Rattle.std.proofs.Common.{◌≡◌, ◌+◌, ◌/◌, refl, ◌∙◌, ⊎_elim, arith, length-set}
use Rattle.std.proofs.lemmas.Bool.{cases_eq}
use Rattle.std.proofs.lemmas.List.{get_or-set_other}
use Rattle.docket.proofs.Awaiting.{put_here, put_there}
use Rattle.docket.proofs.ledger.awaited.write_upward.Goals as goal

pub loop-place-init : goal.loop-place-init
loop-place-init c =
    let ts = c.args.least.now in
    let n = 1024 + c.args.number in (
      length-set ts n c.args.end ∙ c.requires.long,
      omega arith,
      omega arith,
      λ q pos high above. put_there ts n c.args.end q (λ e. omega arith) above pos (c.requires.lesser q pos high),
      λ x. refl,
      refl,
    )

pub loop-place-preserved : goal.loop-place-preserved
loop-place-preserved c =
    let ts = c.loop-place.least in
    let at = c.loop-place.place in
    let was = c.loop-place.invariant in
    let p = at / 2 in
    let v = c.lesser_below.result in (
      length-set ts p v ∙ was.0,
      omega arith,
      omega arith,
      λ q pos high above.
          ⊎_elim
          (λ (e : q ≡ p). put_here ts p v (omega arith) (omega (arith, was.0)) c.lesser_below.ensures q e)
          (λ (e : q ≡ p → ⊥). put_there ts p v q e above pos (was.3 q pos high e))
          (cases_eq q p),
      λ x. get_or-set_other ts p (1024 + x) v 0 (λ e. omega arith) ∙ was.4 x,
      get_or-set_other ts p 0 v 0 (λ e. omega arith) ∙ was.5,
    )

pub returns : goal.returns
returns c =
    let was = c.loop-place.invariant in
    record {
      long = was.0;
      lesser = (λ q pos high. was.3 q pos high (λ e. omega arith));
      ends = was.4;
      unused = was.5 ∙ get_or-set_other c.args.least.now (1024 + c.args.number) 0 c.args.end 0 (λ e. omega arith);
    }
