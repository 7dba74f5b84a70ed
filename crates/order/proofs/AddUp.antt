-- The rank errors of a placed order add up to its passings-over: both count the pairs of a step and an item that it passed over. Assumes nothing.
use Rattle.std.proofs.Common.{◌≡◌, ℕ, ◌+◌, ◌<◌, ◌≤◌, cond, eqb, List, [], ◌∷◌, length, take, drop, sym, ap, ◌∙◌, arith, length-take-le}
use mathlib.Core.Path.{fun_ext}
use Rattle.std.specs.List.{AllByRecursion, sum}
use Rattle.std.proofs.lemmas.List.Sums.{sum_by-cons}
use Rattle.std.proofs.ByRecursion.{All-append, All-take, All-drop}
use Rattle.giving.specs.Lists.{SeatRule, times}
use Rattle.giving.proofs.Counts.{times_insert, times_take, times_without, all_without, once_more}
use Rattle.giving.proofs.Places.{place_le}
use Rattle.order.specs.declared.operation.Deed.{Deed}
use Rattle.order.specs.declared.operation.Deed.TheVariants.{Add, Take, TakeOfNone, FoundEmpty}
use Rattle.order.specs.declared.operation.Paired.{Paired}
use Rattle.order.specs.Steps.{operation, rank_error, after_step, passes_over, sum_below, rank_errors_from, lateness_from, rank_errors, passings_over}
use Rattle.order.specs.Orders.{PlacedFrom, Placed}
use Rattle.order.proofs.Sums.{passes_times, sum_below_zero, sum_below_add, sum_below_times}

rank_le : (d : Deed) (L : List ℕ) → rank_error d L ≤ length L
rank_le Add L = omega arith
rank_le (Take a) L = place_le a L
rank_le TakeOfNone L = omega arith
rank_le FoundEmpty L = omega arith

module _ (seat : SeatRule) (x : ℕ) where
  pub after_times : (d : Deed) (L : List ℕ) (b : ℕ) → times b (after_step seat x d L) ≤ cond (eqb b x) 1 0 + times b L
  after_times Add L b = omega (arith, times_insert b x (seat L x) L)
  after_times (Take a) L b = omega (arith, times_without b a L)
  after_times TakeOfNone L b = omega arith
  after_times FoundEmpty L b = omega arith

  after_step_all : (P : ℕ → Type 0) (d : Deed) (L : List ℕ) → P x → AllByRecursion P L → AllByRecursion P (after_step seat x d L)
  after_step_all P Add L h a = All-append P (take (seat L x) L) (x ∷ drop (seat L x) L) (All-take P (seat L x) L a) (h, All-drop P (seat L x) L a)
  after_step_all P (Take b) L h a = all_without P b L a
  after_step_all P TakeOfNone L h a = a
  after_step_all P FoundEmpty L h a = a

module _ (seat : SeatRule) (ops : List Paired) (k : ℕ) where
  counted : (p done L : List ℕ) → ((a : ℕ) → times a L ≤ times a done) → ((a : ℕ) → times a done ≤ 1) → AllByRecursion (λ a. a < length ops) L
      → PlacedFrom seat ops k done L p → sum (rank_errors_from seat ops L p) ≡ sum_below (length ops) (λ a. lateness_from seat ops a L p)
  counted [] done L sub one low h = sym (sum_below_zero (length ops))
  counted (x ∷ p) done L sub one low h =
      let d : Deed = (operation ops x).deed in
      let r : ℕ = rank_error d L in
      let M : List ℕ = after_step seat x d L in
      let hits : sum_below (length ops) (λ a. passes_over a r L) ≡ r =
      ap (sum_below (length ops)) (fun_ext (λ a. passes_times a r L (omega (arith, times_take a r L, sub a, one a))))
      ∙ (sum_below_times (length ops) (take r L) (All-take (λ a. a < length ops) r L low) ∙ length-take-le r L (rank_le d L)) in
      let rest : sum (rank_errors_from seat ops M p) ≡ sum_below (length ops) (λ a. lateness_from seat ops a M p) =
      counted p (x ∷ done) M (λ a. omega (arith, after_times seat x d L a, sub a)) (λ a. once_more a x done h.0.fresh (one a))
      (after_step_all seat x (λ a. a < length ops) d L h.0.known low) h.1 in
      omega (arith, sum_by-cons (λ (e : ℕ). e) r (rank_errors_from seat ops M p), sum_below_add (length ops) (λ a. passes_over a r L) (λ a. lateness_from seat ops a M p), hits, rest)

  pub add_up : (p : List ℕ) → Placed seat ops k p → sum (rank_errors seat ops p) ≡ passings_over seat ops p
  add_up p h = counted p [] [] (λ a. omega arith) (λ a. omega arith) tt h
