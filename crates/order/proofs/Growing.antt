-- What the steps u and then v come to, and one more step. Assumes nothing.
use Rattle.std.proofs.Common.{◌≡◌, ℕ, suc, ◌+◌, List, [], ◌∷◌, ◌++◌, length, refl, ap, arith}
use Rattle.giving.specs.Lists.{SeatRule}
use Rattle.order.specs.declared.operation.Paired.{Paired}
use Rattle.order.specs.Steps.{operation, rank_error, after_step, giving_from, rank_errors_from, lateness_from, adds_in}
use Rattle.order.specs.Laws.{OneMore}

adds_append : (ops : List Paired) (u v : List ℕ) → adds_in ops (u ++ v) ≡ adds_in ops u + adds_in ops v
adds_append ops [] v = omega arith
adds_append ops (x ∷ u) v = omega (arith, adds_append ops u v)

module _ (seat : SeatRule) (ops : List Paired) where
  pub length_ranks : (p L : List ℕ) → length (rank_errors_from seat ops L p) ≡ length p
  length_ranks [] L = refl
  length_ranks (x ∷ p) L = ap suc (length_ranks p (after_step seat x (operation ops x).deed L))

  pub giving_append : (u v L : List ℕ) → giving_from seat ops L (u ++ v) ≡ giving_from seat ops (giving_from seat ops L u) v
  giving_append [] v L = refl
  giving_append (x ∷ u) v L = giving_append u v (after_step seat x (operation ops x).deed L)

  pub ranks_append : (u v L : List ℕ) → rank_errors_from seat ops L (u ++ v) ≡ rank_errors_from seat ops L u ++ rank_errors_from seat ops (giving_from seat ops L u) v
  ranks_append [] v L = refl
  ranks_append (x ∷ u) v L = ap (λ l. rank_error (operation ops x).deed L ∷ l) (ranks_append u v (after_step seat x (operation ops x).deed L))

  lateness_append : (a : ℕ) (u v L : List ℕ) → lateness_from seat ops a L (u ++ v) ≡ lateness_from seat ops a L u + lateness_from seat ops a (giving_from seat ops L u) v
  lateness_append a [] v L = omega arith
  lateness_append a (x ∷ u) v L = omega (arith, lateness_append a u v (after_step seat x (operation ops x).deed L))

  pub one_more_step : (p : List ℕ) (x : ℕ) → OneMore seat ops p x
  one_more_step p x = record {
    giving = giving_append p (x ∷ []) [];
    errors_by_step = ranks_append p (x ∷ []) [];
    latenesses = λ a. omega (arith, lateness_append a p (x ∷ []) []);
    adds = omega (arith, adds_append ops p (x ∷ []));
  }
