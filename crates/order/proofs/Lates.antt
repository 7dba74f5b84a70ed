-- Only the item of an add can be late. Assumes nothing.
use Rattle.std.proofs.Common.{◌≡◌, ℕ, cond, eqb, List, [], ◌∷◌, take, sym, refl, ap, ◌∙◌, arith}
use Rattle.std.proofs.lemmas.Bool.{cond_both, eqb-true}
use Rattle.giving.specs.Lists.{SeatRule, times}
use Rattle.giving.proofs.Counts.{times_insert, times_take, times_without}
use Rattle.order.specs.declared.operation.Deed.{Deed}
use Rattle.order.specs.declared.operation.Deed.TheVariants.{Add, Take, TakeOfNone, FoundEmpty}
use Rattle.order.specs.declared.operation.Paired.{Paired}
use Rattle.order.specs.Steps.{operation, rank_error, after_step, items_added, passes_over, lateness_from}

module _ (seat : SeatRule) (ops : List Paired) (a : ℕ) (none : items_added (operation ops a).deed ≡ 0) where
  another : (x : ℕ) → Add ≡ (operation ops x).deed → ◌≡◌ {A = ℕ} (cond (eqb a x) 1 0) 0
  another x e =
      cond_both (eqb a x) 1 0 (λ (v : ℕ). v ≡ 0)
      (λ t.
      let one : ◌≡◌ {A = ℕ} 1 0 = ap items_added e ∙ ap (λ y. items_added (operation ops y).deed) (sym (eqb-true a x t)) ∙ none in
      absurd (omega arith))
      (λ f. refl)

  -- its number never gets into the giving list
  after_none : (x : ℕ) (d : Deed) (L : List ℕ) → d ≡ (operation ops x).deed → times a L ≡ 0 → times a (after_step seat x d L) ≡ 0
  after_none x Add L e h = omega (arith, times_insert a x (seat L x) L, another x e)
  after_none x (Take b) L e h = omega (arith, times_without a b L)
  after_none x TakeOfNone L e h = h
  after_none x FoundEmpty L e h = h

  late_none : (p L : List ℕ) → times a L ≡ 0 → lateness_from seat ops a L p ≡ 0
  late_none [] L h = refl
  late_none (x ∷ p) L h =
      let d : Deed = (operation ops x).deed in
      let r : ℕ = rank_error d L in
      let z : times a (take r L) ≡ 0 = omega (arith, times_take a r L) in
      let passed : passes_over a r L ≡ 0 = ap {B = ℕ} (λ n. cond (eqb n 0) 0 1) z in
      omega (arith, late_none p (after_step seat x d L) (after_none x d L refl h))

  pub never_late : (p : List ℕ) → lateness_from seat ops a [] p ≡ 0
  never_late p = late_none p [] refl
