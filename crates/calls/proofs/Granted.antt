-- A certificate says and writes what it is granted for, and nothing else does. Assumes nothing.
use Rattle.std.proofs.Common.{◌≡◌, ℕ, suc, ◌<◌, ◌≤◌, List, [], ◌∷◌, ◌++◌, length, get_or, take, drop, Ok, sym, refl, ap, ◌∙◌, subst, zero-add, arith, length-append, length-drop, take-append-drop, length-take-le, get_or-take, ext_get_or, drop_at}
use lib.Seq.{get_or_at, split_at}
use Rattle.std.specs.List.{AllZip, sum}
use Rattle.std.proofs.lemmas.List.FromFn.{get_or-map-range_with_len}
use Rattle.giving.specs.Lists.{SeatRule, place}
use Rattle.giving.proofs.Fronts.{over_at, take_over}
use Rattle.order.specs.declared.operation.Paired.{Paired}
use Rattle.calls.specs.declared.certificate.Certificate.{Certificate}
use Rattle.order.specs.Steps.{operation, rank_error, rank_errors, rank_errors_from, after_step, giving_after, lateness, passings_over}
use Rattle.order.specs.Times.{Instants, earliest}
use Rattle.order.specs.Orders.{Placed, TrueOrder}
use Rattle.order.proofs.AddUp.{add_up}
use Rattle.order.proofs.Whole.{placed_of_true}
use Rattle.order.proofs.Earliest.{earliest_below}
use Rattle.order.proofs.InTime.{earliest_admits}
use Rattle.order.proofs.Splits.{step_by_step}
use Rattle.order.proofs.Stretches.{shortest, only}
use Rattle.giving.specs.Fronts.{over}
use Rattle.calls.specs.Rules.{Buffers, largest_of, latenesses_of, certificate_of, written}
use Rattle.calls.specs.Meanings.{Costs, KeptPast, Largest, Granted}
use Rattle.order.proofs.Growing.{length_ranks, ranks_append}
use Rattle.calls.proofs.Largest.{largest_is, same_largest}
use Rattle.calls.proofs.Grants.{Long, length_errors, length_instants, length_latenesses, sums}

-- a list over the front of a buffer
kept : (xs old : List ℕ) (n : ℕ) → length xs ≡ n → n ≤ length old → KeptPast n old (over xs old)
kept xs old n e l = (omega (arith, length-append xs (drop (length xs) old), length-drop (length xs) old), drop_at xs (drop (length xs) old) n e ∙ ap (λ m. drop m old) e)

filled : (xs old new : List ℕ) (n : ℕ) → length xs ≡ n → KeptPast n old new → take n new ≡ xs → new ≡ over xs old
filled xs old new n e h t = sym (take-append-drop n new) ∙ (ap (λ (l : List ℕ). l ++ drop n new) t ∙ ap (λ (l : List ℕ). xs ++ l) (h.1 ∙ ap (λ m. drop m old) (sym e)))

front : (xs new : List ℕ) (n : ℕ) → length xs ≡ n → n ≤ length new → ((i : ℕ) → i < n → get_or new i 0 ≡ get_or xs i 0) → take n new ≡ xs
front xs new n e l f =
    let c : length (take n new) ≡ n = length-take-le n new l in
    ext_get_or 0 (take n new) xs (c ∙ sym e) (λ i u. get_or-take n new i 0 (omega arith) ∙ f i (omega arith))

both_least : (xs ys : List ℕ) → AllZip ◌≤◌ xs ys → AllZip ◌≤◌ ys xs → xs ≡ ys
both_least [] [] h g = refl
both_least [] (y ∷ ys) h g = absurd h
both_least (x ∷ xs) [] h g = absurd h
both_least (x ∷ xs) (y ∷ ys) h g = let e : x ≡ y = omega arith in let r : xs ≡ ys = both_least xs ys h.1 g.1 in cc

-- records with equal fields
same_certificate : (t m i t' m' i' : ℕ) → t ≡ t' → m ≡ m' → i ≡ i'
    → ◌≡◌ {A = Certificate} (record { total = t; largest = m; first = i }) (record { total = t'; largest = m'; first = i' })
same_certificate t m i t' m' i' a b c = cc

same_buffers : (r i s r' i' s' : List ℕ) → r ≡ r' → i ≡ i' → s ≡ s'
    → ◌≡◌ {A = Buffers} (record { ranks = r; instants = i; latenesses = s }) (record { ranks = r'; instants = i'; latenesses = s' })
same_buffers r i s r' i' s' a b c = cc

module _ (seat : SeatRule) (ops : List Paired) (k : ℕ) where
  -- the rank error of the step after u
  rank_at : (p u v : List ℕ) (x : ℕ) → p ≡ u ++ (x ∷ v) → get_or (rank_errors seat ops p) (length u) 0 ≡ rank_error (operation ops x).deed (giving_after seat ops u)
  rank_at p u v x e =
      let L : List ℕ = giving_after seat ops u in
      ap (λ (l : List ℕ). get_or l (length u) 0) (ap (rank_errors seat ops) e ∙ ranks_append seat ops u (x ∷ v) [])
      ∙ get_or_at (rank_errors seat ops u) (rank_error (operation ops x).deed L) (rank_errors_from seat ops (after_step seat x (operation ops x).deed L) v) 0 (length u) (length_ranks seat ops u [])

  -- the rank error of each placed step is that of a shortest stretch
  pub costs_at : (p u v : List ℕ) (x : ℕ) → Placed seat ops k p → p ≡ u ++ (x ∷ v) → Costs seat ops u x (get_or (rank_errors seat ops p) (length u) 0)
  costs_at p u v x h e =
      subst (Costs seat ops u x) (sym (rank_at p u v x e)) (shortest (operation ops x).deed (giving_after seat ops u) (step_by_step seat ops k p h u x v e).ranked)

  before : (p u v : List ℕ) (x : ℕ) → p ≡ u ++ (x ∷ v) → length u < length p
  before p u v x e = omega (arith, ap length e, length-append u (x ∷ v))

  pub is_granted : (p : List ℕ) (b : Buffers) → TrueOrder seat ops k p → Long (length ops) b
      → Granted seat ops k p b (certificate_of seat ops p) (written seat ops p b (Ok (certificate_of seat ops p)))
  is_granted p b t room =
      let g = placed_of_true seat ops k p t in
      let n : ℕ = length ops in
      let R : List ℕ = rank_errors seat ops p in
      let E : List ℕ = earliest ops p in
      let S : List ℕ = latenesses_of seat ops p in
      let f : ℕ → ℕ = λ a. lateness seat ops a p in
      let nR : length R ≡ n = length_errors seat ops k p t in
      let nE : length E ≡ n = length_instants seat ops k p t in
      let nS : length S ≡ n = length_latenesses seat ops k p in
      let tE : take n (over E b.instants) ≡ E = take_over E b.instants n nE in
      let all : sum R ≡ passings_over seat ops p = add_up seat ops k p g.0 in
      let parts = sums seat ops k p t b in
      record {
        order = t;
        room = room;
        errors_by_step = λ u v x e.
            subst (Costs seat ops u x) (sym (over_at R b.ranks (length u) (omega (arith, before p u v x e, nR, g.1)))) (costs_at p u v x g.0 e);
        instants = subst (Instants ops p) (sym tE) (earliest_admits ops p t.timed.instants.0 t.timed.instants.1);
        least = λ ts i. subst (λ (l : List ℕ). AllZip ◌≤◌ l ts) (sym tE) (earliest_below ops 0 0 p ts (omega arith) i);
        latenesses = λ a l. over_at S b.latenesses a (omega (arith, nS)) ∙ get_or-map-range_with_len f 0 n a a 0 l (zero-add a);
        rest = (kept R b.ranks n nR room.0, kept E b.instants n nE room.1, kept S b.latenesses n nS room.2);
        total = all;
        total_of_ranks = all ∙ sym parts.0;
        total_of_latenesses = all ∙ sym parts.1;
        largest = largest_is R (drop (length R) b.ranks) n nR;
      }

  -- no other certificate and no other buffers are so
  pub granted_same : (p : List ℕ) (b w : Buffers) (c : Certificate) → Granted seat ops k p b c w
      → (c ≡ certificate_of seat ops p) × (w ≡ written seat ops p b (Ok (certificate_of seat ops p)))
  granted_same p b w c G =
      let t : TrueOrder seat ops k p = G.order in
      let g = placed_of_true seat ops k p t in
      let n : ℕ = length ops in
      let R : List ℕ = rank_errors seat ops p in
      let E : List ℕ = earliest ops p in
      let S : List ℕ = latenesses_of seat ops p in
      let f : ℕ → ℕ = λ a. lateness seat ops a p in
      let nR : length R ≡ n = length_errors seat ops k p t in
      let nE : length E ≡ n = length_instants seat ops k p t in
      let nS : length S ≡ n = length_latenesses seat ops k p in
      let each-rank : (i : ℕ) → i < n → get_or w.ranks i 0 ≡ get_or R i 0 = λ i l.
      let u : List ℕ = take i p in
      let x : ℕ = get_or p i 0 in
      let v : List ℕ = drop (suc i) p in
      let e : p ≡ u ++ (x ∷ v) = split_at p i 0 (omega arith) in
      let at : length u ≡ i = length-take-le i p (omega arith) in
      ap (λ j. get_or w.ranks j 0) (sym at)
      ∙ (only (operation ops x).deed (giving_after seat ops u) (get_or w.ranks (length u) 0) (G.errors_by_step u v x e)
      ∙ (sym (rank_at p u v x e) ∙ ap (λ j. get_or R j 0) at)) in
      let wR : w.ranks ≡ over R b.ranks = filled R b.ranks w.ranks n nR G.rest.0 (front R w.ranks n nR (omega arith) each-rank) in
      let wE : w.instants ≡ over E b.instants =
      filled E b.instants w.instants n nE G.rest.1
      (both_least (take n w.instants) E (G.least E (earliest_admits ops p t.timed.instants.0 t.timed.instants.1))
      (earliest_below ops 0 0 p (take n w.instants) (omega arith) G.instants)) in
      let wS : w.latenesses ≡ over S b.latenesses =
      filled S b.latenesses w.latenesses n nS G.rest.2
      (front S w.latenesses n nS (omega arith) (λ a l. G.latenesses a l ∙ sym (get_or-map-range_with_len f 0 n a a 0 l (zero-add a)))) in
      let top = same_largest n (over R b.ranks) c.largest c.first (largest_of R) (place (largest_of R) R)
      (subst (λ (l : List ℕ). Largest n l c.largest c.first) wR G.largest) (largest_is R (drop (length R) b.ranks) n nR) in
      let all : c.total ≡ sum R = G.total ∙ sym (add_up seat ops k p g.0) in (
        same_certificate c.total c.largest c.first (sum R) (largest_of R) (place (largest_of R) R) all top.0 top.1,
        same_buffers w.ranks w.instants w.latenesses (over R b.ranks) (over E b.instants) (over S b.latenesses) wR wE wS,
      )
