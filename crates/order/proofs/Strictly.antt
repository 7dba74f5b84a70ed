-- The strict object is the case of bound 0. Assumes nothing.
use Rattle.std.proofs.Common.{◌≡◌, ℕ, suc, ◌≤◌, true, false, eqb, List, [], ◌∷◌, sym, refl, arith}
use Rattle.std.proofs.lemmas.Bool.{cond_both, eqb-true, ltb-true, both_ways}
use Rattle.giving.specs.Lists.{SeatRule, place}
use Rattle.order.specs.declared.operation.Deed.{Deed}
use Rattle.order.specs.declared.operation.Deed.TheVariants.{Add, Take, TakeOfNone, FoundEmpty}
use Rattle.order.specs.declared.operation.Paired.{Paired}
use Rattle.order.specs.Steps.{operation, has_rank, rank_error, after_step}
use Rattle.order.specs.Orders.{WithinBound, TrueOrder}
use Rattle.order.specs.Strict.{Gives, Stretch, GivenStrictly, StrictOrder}
use Rattle.order.proofs.Stretches.{shortest, has_one}

-- an answer that is given costs nothing, and one that costs nothing is given
given_stretch : (d : Deed) (L : List ℕ) → Gives d L → Stretch d L 0
given_stretch d L g = record { before = []; removed = []; behind = L; parts = refl; count = refl; gives = g }

given_free : (d : Deed) (L : List ℕ) → Gives d L → rank_error d L ≤ 0
given_free d L g = (shortest d L (has_one d L 0 (given_stretch d L g))).fewest 0 (given_stretch d L g)

free_given : (d : Deed) (L : List ℕ) → has_rank d L ≡ true → rank_error d L ≤ 0 → Gives d L
free_given Add L h z = tt
free_given (Take a) [] h z = absurd (omega (arith, ltb-true (place a []) 0 h))
free_given (Take a) (x ∷ L) h z = cond_both (eqb a x) 0 (suc (place a L)) (λ n. n ≤ 0 → x ≡ a) (λ e l. sym (eqb-true a x e)) (λ e l. absurd (omega arith)) z
free_given TakeOfNone L h z = both_ways false refl h
free_given FoundEmpty [] h z = tt
free_given FoundEmpty (x ∷ L) h z = absurd (omega arith)

module _ (seat : SeatRule) (ops : List Paired) where
  given_of_bounded : (p L : List ℕ) → WithinBound seat ops 0 L p → GivenStrictly seat ops L p
  given_of_bounded [] L h = tt
  given_of_bounded (x ∷ p) L h = (free_given (operation ops x).deed L h.0 h.1, given_of_bounded p (after_step seat x (operation ops x).deed L) h.2)

  bounded_of_given : (p L : List ℕ) → GivenStrictly seat ops L p → WithinBound seat ops 0 L p
  bounded_of_given [] L h = tt
  bounded_of_given (x ∷ p) L h =
      let d : Deed = (operation ops x).deed in
      (has_one d L 0 (given_stretch d L h.0), given_free d L h.0, bounded_of_given p (after_step seat x d L) h.1)

  pub strict_of_true : (p : List ℕ) → TrueOrder seat ops 0 p → StrictOrder seat ops p
  strict_of_true p t = record { timed = t.timed; given = given_of_bounded p [] t.within_bound }

  pub true_of_strict : (p : List ℕ) → StrictOrder seat ops p → TrueOrder seat ops 0 p
  true_of_strict p t = record { timed = t.timed; within_bound = bounded_of_given p [] t.given }
