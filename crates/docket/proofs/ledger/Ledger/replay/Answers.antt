use Rattle.std.proofs.Common.{◌≡◌, ℕ, ◌+◌, ◌<◌, ◌≤◌, get_or, drop, sym, ap, ◌∙◌, arith}
use Rattle.std.proofs.lemmas.List.{at_drop_more, at_drop_all}
use Rattle.giving.specs.Lists.{SeatRule}
use Rattle.docket.specs.declared.ledger.Ledger.{Ledger}
use Rattle.docket.specs.Kept.{entry_of}
use Rattle.docket.specs.InAgreement.{steps_of}
use Rattle.docket.proofs.Placing.{long_steps, order_at, order_known}
use Rattle.holder.specs.Meanings.{Meaning, meaning}
use Rattle.docket.specs.Moves.{stepped, replayed}
use Rattle.docket.proofs.ledger.Ledger.replay.Goals as goal

pub bounds-self-placed : goal.bounds-self-placed
bounds-self-placed g c = omega (arith, order_known c.args.self.now c.order-order.result.now c.order-order.ensures.steps c.loop-placed.placed-index (omega arith))

-- one more step
replayed_one_more : (seat : SeatRule) (l : Ledger) (s t : Meaning) (i : ℕ) → i < l.placed
    → (x : ℕ) → x ≡ get_or (steps_of l) i 0 → t ≡ stepped seat x (entry_of l.entries x).paired.deed s
    → replayed seat l.entries t (drop (i + 1) (steps_of l)) ≡ replayed seat l.entries s (drop i (steps_of l))
unfolding replayed
replayed_one_more seat l s t i h x r e =
    ap (λ (u : Meaning). replayed seat l.entries u (drop (i + 1) (steps_of l))) e
    ∙ ap (λ (x : ℕ). replayed seat l.entries (stepped seat x (entry_of l.entries x).paired.deed s) (drop (i + 1) (steps_of l))) r
    ∙ sym (at_drop_more (replayed seat l.entries s) (steps_of l) i 0 (omega (arith, long_steps l)))

pub loop-placed-preserved : goal.loop-placed-preserved
loop-placed-preserved g c =
    replayed_one_more g.H.Holder.seat c.args.self.now (meaning (g.H.Holder.giving c.loop-placed.holder) (g.H.Holder.adds c.loop-placed.holder)) _ c.loop-placed.placed-index (omega arith) _ (order_at c.args.self.now c.order-order.result.now c.order-order.ensures.steps c.loop-placed.placed-index (omega arith)) c.step.ensures ∙ c.loop-placed.invariant

replayed_all : (seat : SeatRule) (l : Ledger) (s : Meaning) (i : ℕ) → l.placed ≤ i → replayed seat l.entries s (drop i (steps_of l)) ≡ s
unfolding replayed
replayed_all seat l s i h = at_drop_all (replayed seat l.entries s) (steps_of l) i (omega (arith, long_steps l))

pub returns : goal.returns
returns g c =
    sym (replayed_all g.H.Holder.seat c.args.self.now (meaning (g.H.Holder.giving c.loop-placed.holder) (g.H.Holder.adds c.loop-placed.holder)) c.loop-placed.placed-index (omega arith)) ∙ c.loop-placed.invariant
