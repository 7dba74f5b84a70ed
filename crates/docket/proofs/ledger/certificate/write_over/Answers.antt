use Rattle.std.proofs.Common.{◌≡◌, get_or, set, refl, ap, ◌∙◌}
use Rattle.docket.proofs.Fronts.{over_map_more}
use Rattle.docket.proofs.ledger.certificate.write_over.Goals as goal

pub loop-i-init : goal.loop-i-init
loop-i-init g c = λ f h. refl

pub loop-i-preserved : goal.loop-i-preserved
loop-i-preserved g c = λ f h.
    let xs = c.args.items.now in
    let i = c.loop-i.i in
    let x = c.index-items-i.result in
    let said : c.of.result ≡ f (get_or xs i x) = h _ _ c.of.ensures ∙ ap f c.index-items-i.is in
    ap (set c.loop-i.buffer i) said ∙ over_map_more f x xs c.args.buffer.now c.loop-i.buffer i c.loop-i-test.true c.requires.room (c.loop-i.invariant f h)
