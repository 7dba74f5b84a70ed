-- True orders are the placed orders of full length. Assumes nothing.
use Rattle.std.proofs.Common.{◌≡◌, ℕ, ◌+◌, ◌<◌, ◌≤◌, max, eqb, List, [], ◌∷◌, length, sym, refl, ap, ◌∙◌, arith}
use Rattle.std.specs.List.{AllByRecursion}
use Rattle.std.proofs.lemmas.Bool.{cond_both, eqb-true, le-ltb, ltb-false}
use Rattle.giving.specs.Lists.{SeatRule, times}
use Rattle.giving.proofs.Counts.{times_here, once_more}
use Rattle.order.specs.declared.operation.Paired.{Paired}
use Rattle.order.specs.Steps.{operation, after_step}
use Rattle.order.specs.Times.{InstantsFrom, earliest_from, earliest}
use Rattle.order.specs.Orders.{PlacedFrom, Placed, WithinBound, TrueOrder}
use Rattle.order.proofs.Sums.{sum_below_times, sum_below_ones, sum_below_full}

-- a step that is still to come ends no sooner than the bound on its instant
later : (ops : List Paired) (m : ℕ) (p ts : List ℕ) (b : ℕ) → InstantsFrom ops m p ts → 1 ≤ times b p → m ≤ (operation ops b).end
later ops m [] ts b i h = omega arith
later ops m (x ∷ p) [] b i h = absurd i
later ops m (x ∷ p) (t ∷ ts) b i h =
    cond_both (eqb b x) 1 0 (λ v. 1 ≤ v + times b p → m ≤ (operation ops b).end)
    (λ e l. omega (arith, ap (λ y. (operation ops y).end) (eqb-true b x e))) (λ e l. omega (arith, later ops t p ts b i.3 (omega arith))) h

module _ (seat : SeatRule) (ops : List Paired) (k : ℕ) where
  placed_of_timed : (p done L : List ℕ) (m : ℕ) (ts : List ℕ) → AllByRecursion (λ x. x < length ops) p → ((b : ℕ) → b < length ops → times b done + times b p ≡ 1)
      → WithinBound seat ops k L p → InstantsFrom ops m p ts → PlacedFrom seat ops k done L p
  placed_of_timed [] done L m ts low one within_bound i = tt
  placed_of_timed (x ∷ p) done L m [] low one within_bound i = absurd i
  placed_of_timed (x ∷ p) done L m (t ∷ ts) low one within_bound i = (
    record {
      known = low.0;
      fresh = omega (arith, times_here x x p refl, one x low.0);
      in_time = λ b l z. le-ltb (operation ops b).end (operation ops x).start (omega (arith, later ops t (x ∷ p) (t ∷ ts) b (omega arith, i.1, i.2, i.3) (omega (arith, one b l))));
      ranked = within_bound.0;
      small = within_bound.1;
    },
    placed_of_timed p (x ∷ done) (after_step seat x (operation ops x).deed L) t ts low.1 (λ b l. omega (arith, one b l)) within_bound.2 i.3,
  )

  pub placed_known : (p done L : List ℕ) → PlacedFrom seat ops k done L p → AllByRecursion (λ x. x < length ops) p
  placed_known [] done L h = tt
  placed_known (x ∷ p) done L h = (h.0.known, placed_known p (x ∷ done) (after_step seat x (operation ops x).deed L) h.1)

  pub placed_bounded : (p done L : List ℕ) → PlacedFrom seat ops k done L p → WithinBound seat ops k L p
  placed_bounded [] done L h = tt
  placed_bounded (x ∷ p) done L h = (h.0.ranked, h.0.small, placed_bounded p (x ∷ done) (after_step seat x (operation ops x).deed L) h.1)

  pub placed_once : (p done L : List ℕ) → ((a : ℕ) → times a done ≤ 1) → PlacedFrom seat ops k done L p → (a : ℕ) → times a done + times a p ≤ 1
  placed_once [] done L one h a = omega (arith, one a)
  placed_once (x ∷ p) done L one h a =
      omega (arith, placed_once p (x ∷ done) (after_step seat x (operation ops x).deed L) (λ b. once_more b x done h.0.fresh (one b)) h.1 a)

  pub placed_instants : (p done L : List ℕ) (m : ℕ) → ((b : ℕ) → b < length ops → times b done ≡ 0 → m ≤ (operation ops b).end)
      → PlacedFrom seat ops k done L p → InstantsFrom ops m p (earliest_from ops m p)
  placed_instants [] done L m late h = tt
  placed_instants (x ∷ p) done L m late h =
      let ok = h.0 in
      let started : (b : ℕ) → b < length ops → times b done ≡ 0 → (operation ops x).start ≤ (operation ops b).end =
      λ b l z. ltb-false (operation ops b).end (operation ops x).start (ok.in_time b l z) in (
        omega arith,
        omega arith,
        omega (arith, late x ok.known ok.fresh, started x ok.known ok.fresh),
        placed_instants p (x ∷ done) (after_step seat x (operation ops x).deed L) (max m (operation ops x).start)
            (λ b l z. let f : times b done ≡ 0 = omega arith in omega (arith, late b l f, started b l f)) h.1,
      )

  pub placed_of_true : (p : List ℕ) → TrueOrder seat ops k p → Placed seat ops k p × (length p ≡ length ops)
  placed_of_true p t = (
    placed_of_timed p [] [] 0 t.timed.instants.0 t.timed.known (λ b l. omega (arith, t.timed.once b l)) t.within_bound t.timed.instants.1,
    sym (sum_below_times (length ops) p t.timed.known) ∙ sum_below_ones (length ops) (λ a. times a p) t.timed.once,
  )

  pub true_of_placed : (p : List ℕ) → Placed seat ops k p → length p ≡ length ops → TrueOrder seat ops k p
  true_of_placed p h e = record {
    timed = record {
      known = placed_known p [] [] h;
      once = sum_below_full (length ops) (λ a. times a p) (λ a. omega (arith, placed_once p [] [] (λ b. omega arith) h a))
          (omega (arith, sum_below_times (length ops) p (placed_known p [] [] h)));
      instants = (earliest ops p, placed_instants p [] [] 0 (λ b l z. omega arith) h);
    };
    within_bound = placed_bounded p [] [] h;
  }
