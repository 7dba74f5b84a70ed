-- How large the numbers of a placed order get. Assumes nothing.
use Rattle.std.proofs.Common.{◌≡◌, ℕ, suc, ◌+◌, ◌*◌, ◌≤◌, eqb, List, [], ◌∷◌, length, take, drop, ap, suc-mul, arith, length-append, take-append-drop}
use Rattle.std.specs.List.{insert, sum}
use Rattle.std.proofs.lemmas.List.Sums.{sum_by-cons}
use Rattle.std.proofs.lemmas.Bool.{cond_both}
use Rattle.giving.specs.Lists.{SeatRule, times, without}
use Rattle.giving.proofs.Counts.{times_take}
use Rattle.order.specs.declared.operation.Deed.{Deed}
use Rattle.order.specs.declared.operation.Deed.TheVariants.{Add, Take, TakeOfNone, FoundEmpty}
use Rattle.order.specs.declared.operation.Paired.{Paired}
use Rattle.order.specs.Steps.{operation, rank_error, after_step, items_added, passes_over, giving_from, rank_errors_from, lateness_from, adds_in}
use Rattle.order.specs.Orders.{Placed, WithinBound}
use Rattle.order.specs.Laws.{Sizes}
use Rattle.order.proofs.Sums.{passes_times, sum_below_times, sum_below_le}
use Rattle.order.proofs.AddUp.{after_times}
use Rattle.order.proofs.Whole.{placed_known, placed_bounded, placed_once}

length_without : (a : ℕ) (L : List ℕ) → length (without a L) ≤ length L
length_without a [] = omega arith
length_without a (x ∷ xs) = cond_both (eqb a x) xs (x ∷ without a xs) (λ M. length M ≤ suc (length xs)) (λ e. omega arith) (λ e. omega (arith, length_without a xs))

length_inserted : (L : List ℕ) (i x : ℕ) → length (insert L i x) ≡ suc (length L)
length_inserted L i x = omega (arith, length-append (take i L) (x ∷ drop i L), length-append (take i L) (drop i L), ap length (take-append-drop i L))

after_length : (seat : SeatRule) (x : ℕ) (d : Deed) (L : List ℕ) → length (after_step seat x d L) ≤ items_added d + length L
after_length seat x Add L = omega (arith, length_inserted L (seat L x) x)
after_length seat x (Take a) L = omega (arith, length_without a L)
after_length seat x TakeOfNone L = omega arith
after_length seat x FoundEmpty L = omega arith

pub added_one : (d : Deed) → items_added d ≤ 1
added_one Add = omega arith
added_one (Take a) = omega arith
added_one TakeOfNone = omega arith
added_one FoundEmpty = omega arith

passes_one : (a r : ℕ) (L : List ℕ) → passes_over a r L ≤ 1
passes_one a r L = cond_both (eqb (times a (take r L)) 0) 0 1 (λ v. v ≤ 1) (λ e. omega arith) (λ e. omega arith)

pub adds_le : (ops : List Paired) (p : List ℕ) → adds_in ops p ≤ length p
adds_le ops [] = omega arith
adds_le ops (x ∷ p) = omega (arith, adds_le ops p, added_one (operation ops x).deed)

module _ (seat : SeatRule) (ops : List Paired) where
  pub held_times : (a : ℕ) (p L : List ℕ) → times a (giving_from seat ops L p) ≤ times a L + times a p
  held_times a [] L = omega arith
  held_times a (x ∷ p) L = let d : Deed = (operation ops x).deed in omega (arith, held_times a p (after_step seat x d L), after_times seat x d L a)

  -- where no step stands twice, one passes over an item of the list once at most
  pub passes_held : (a r : ℕ) (p L : List ℕ) → L ≡ giving_from seat ops [] p → times a p ≤ 1 → (passes_over a r L ≡ times a (take r L)) × (times a (take r L) ≤ 1)
  passes_held a r p L is once =
      let one : times a (take r L) ≤ 1 = omega (arith, times_take a r L, ap (times a) is, held_times a p [], once) in
      (passes_times a r L one, one)

  held_length : (p L : List ℕ) → length (giving_from seat ops L p) ≤ length L + adds_in ops p
  held_length [] L = omega arith
  held_length (x ∷ p) L = let d : Deed = (operation ops x).deed in omega (arith, held_length p (after_step seat x d L), after_length seat x d L)

  pub late_le : (a : ℕ) (p L : List ℕ) → lateness_from seat ops a L p ≤ length p
  late_le a [] L = omega arith
  late_le a (x ∷ p) L = let d : Deed = (operation ops x).deed in omega (arith, late_le a p (after_step seat x d L), passes_one a (rank_error d L) L)

  total_le : (k : ℕ) (p L : List ℕ) → WithinBound seat ops k L p → sum (rank_errors_from seat ops L p) ≤ length p * k
  total_le k [] L h = omega arith
  total_le k (x ∷ p) L h =
      let d : Deed = (operation ops x).deed in
      omega (arith, suc-mul (length p) k, sum_by-cons (λ (r : ℕ). r) (rank_error d L) (rank_errors_from seat ops (after_step seat x d L) p), total_le k p (after_step seat x d L) h.2)

  pub sizes : (k : ℕ) (p : List ℕ) → Placed seat ops k p → Sizes seat ops k p
  sizes k p h =
      let one : (a : ℕ) → times a p ≤ 1 = λ a. omega (arith, placed_once seat ops k p [] [] (λ b. omega arith) h a) in
      record {
        once = one;
        steps = omega (arith, sum_below_times (length ops) p (placed_known seat ops k p [] [] h), sum_below_le (length ops) (λ a. times a p) one);
        held = λ a. omega (arith, held_times a p []);
        few = omega (arith, held_length p []);
        adds = adds_le ops p;
        late = λ a. late_le a p [];
        total = total_le k p [] (placed_bounded seat ops k p [] [] h);
      }
