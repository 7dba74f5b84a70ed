-- Placed orders, by their steps in turn. Assumes nothing.
use Rattle.std.proofs.Common.{◌≡◌, ℕ, ◌+◌, List, [], ◌∷◌, ◌++◌, refl, ap, subst, arith}
use Rattle.giving.specs.Lists.{SeatRule, times}
use Rattle.order.specs.declared.operation.Paired.{Paired}
use Rattle.order.specs.Steps.{operation, after_step, giving_from, giving_after}
use Rattle.order.specs.Orders.{Acceptable, PlacedFrom, Placed}
use Rattle.order.specs.ByPlace.{StepByStep}

module _ (seat : SeatRule) (ops : List Paired) (k : ℕ) where
  -- only how often a number stands in `done` matters
  pub same_times : (done T L : List ℕ) (x : ℕ) → ((a : ℕ) → times a T ≡ times a done) → Acceptable ops k done L x → Acceptable ops k T L x
  same_times done T L x e h = record {
    known = h.known;
    fresh = omega (arith, e x, h.fresh);
    in_time = λ b l z. h.in_time b l (omega (arith, e b));
    ranked = h.ranked;
    small = h.small;
  }

  at_split : (u done L T : List ℕ) (x : ℕ) (v : List ℕ) → ((a : ℕ) → times a T ≡ times a done + times a u)
      → PlacedFrom seat ops k done L (u ++ x ∷ v) → Acceptable ops k T (giving_from seat ops L u) x
  at_split [] done L T x v e h = same_times done T L x (λ a. omega (arith, e a)) h.0
  at_split (y ∷ u) done L T x v e h = at_split u (y ∷ done) (after_step seat y (operation ops y).deed L) T x v (λ a. omega (arith, e a)) h.1

  from_splits : (p done L : List ℕ)
      → ((u : List ℕ) (x : ℕ) (v T : List ℕ) → p ≡ u ++ x ∷ v → ((a : ℕ) → times a T ≡ times a done + times a u) → Acceptable ops k T (giving_from seat ops L u) x)
      → PlacedFrom seat ops k done L p
  from_splits [] done L f = tt
  from_splits (x ∷ p) done L f = (
    f [] x p done refl (λ a. omega arith),
    from_splits p (x ∷ done) (after_step seat x (operation ops x).deed L) (λ u y v T e t. f (x ∷ u) y v T (ap (λ q. x ∷ q) e) (λ a. omega (arith, t a))),
  )

  pub step_by_step : (p : List ℕ) → Placed seat ops k p → StepByStep seat ops k p
  step_by_step p h u x v e = at_split u [] [] u x v (λ a. omega arith) (subst (λ (q : List ℕ). PlacedFrom seat ops k [] [] q) e h)

  pub placed_of_steps : (p : List ℕ) → StepByStep seat ops k p → Placed seat ops k p
  placed_of_steps p f = from_splits p [] [] (λ u x v T e t. same_times u T (giving_after seat ops u) x (λ a. omega (arith, t a)) (f u x v e))
