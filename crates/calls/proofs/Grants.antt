-- Certificates are granted for true orders, and add up. Assumes nothing.
use Rattle.std.proofs.Common.{◌≡◌, ℕ, zero, suc, ◌+◌, ◌<◌, ◌≤◌, Bool, true, false, cond, ◌||◌, ltb, ◌⊎◌, List, [], map, length, take, is_ok, Some, None, Ok, Err, Option, Result, sym, refl, ap, ◌∙◌, inl, inr, ⊎_elim, zero-add, add-one, arith}
use Rattle.std.specs.List.{sum, range_with_len}
use Rattle.std.proofs.lemmas.List.FromFn.{length-map-range_with_len, sum_by-map-range_with_len_more}
use Rattle.std.proofs.lemmas.Bool.{cond_both, cond-false, eqb-true, eqb-false, ltb-true, ltb-false, lt-ltb, le-ltb, or_from, or_cases, or_parts, or_left, or_right, both_ways}
use Rattle.giving.specs.Lists.{SeatRule, times}
use Rattle.giving.proofs.Fronts.{take_over}
use Rattle.order.specs.declared.operation.Paired.{Paired}
use Rattle.calls.specs.declared.fault.DocketFault.{DocketFault}
use Rattle.calls.specs.declared.fault.DocketFault.TheVariants.{BufferTooShort}
use Rattle.calls.specs.declared.certificate.Certificate.{Certificate}
use Rattle.order.specs.Steps.{rank_errors, sum_below, lateness, passings_over}
use Rattle.order.specs.Times.{earliest}
use Rattle.order.specs.Orders.{Placed, TrueOrder}
use Rattle.order.proofs.Sums.{sum_below_times, sum_below_ones}
use Rattle.order.proofs.Whole.{placed_of_true, true_of_placed, placed_known, placed_once}
use Rattle.order.proofs.AddUp.{add_up}
use Rattle.order.proofs.Earliest.{length_earliest}
use Rattle.calls.specs.Rules.{Buffers, unplaced, missing, is_too_short, unless_missing, latenesses_of, certificate_of, certify_answer, written}
use Rattle.calls.proofs.Lowest.{Lowest, lowest_is, same_lowest}
use Rattle.order.proofs.Growing.{length_ranks}

-- the sum of the values of f at 0, .., n - 1
sum_values : (f : ℕ → ℕ) (n : ℕ) → sum (map f (range_with_len 0 n)) ≡ sum_below n f
sum_values f zero = refl
sum_values f (suc n) =
    omega (arith, sum_values f n, sum_by-map-range_with_len_more (λ (x : ℕ). x) f 0 n n (zero-add n), ap (λ (m : ℕ). sum (map f (range_with_len 0 m))) (add-one n))

-- ---- whether a buffer is too short
abbrev pub Long : ℕ → Buffers → Type 0
Long n b = (n ≤ length b.ranks) × (n ≤ length b.instants) × (n ≤ length b.latenesses)

abbrev pub Short : ℕ → Buffers → Type 0
Short n b = (length b.ranks < n) ⊎ ((length b.instants < n) ⊎ (length b.latenesses < n))

module _ (n : ℕ) (b : Buffers) where
  abbrev ranks_short : Bool
  ranks_short = ltb (length b.ranks) n

  abbrev instants_short : Bool
  instants_short = ltb (length b.instants) n

  abbrev latenesses_short : Bool
  latenesses_short = ltb (length b.latenesses) n

  pub short_true : is_too_short n b ≡ true → Short n b
  short_true e =
      ⊎_elim (λ h. inl (ltb-true (length b.ranks) n h))
      (λ h. inr (⊎_elim (λ g. inl (ltb-true (length b.instants) n g)) (λ g. inr (ltb-true (length b.latenesses) n g)) (or_cases instants_short latenesses_short h)))
      (or_cases ranks_short (instants_short || latenesses_short) e)

  pub short_false : is_too_short n b ≡ false → Long n b
  short_false e =
      let h = or_parts ranks_short (instants_short || latenesses_short) e in
      let g = or_parts instants_short latenesses_short h.1 in
      (ltb-false (length b.ranks) n h.0, ltb-false (length b.instants) n g.0, ltb-false (length b.latenesses) n g.1)

  pub true_short : Short n b → is_too_short n b ≡ true
  true_short h =
      ⊎_elim (λ l. or_left ranks_short (instants_short || latenesses_short) (lt-ltb (length b.ranks) n l))
      (λ g. or_right ranks_short (instants_short || latenesses_short)
      (⊎_elim (λ l. or_left instants_short latenesses_short (lt-ltb (length b.instants) n l)) (λ l. or_right instants_short latenesses_short (lt-ltb (length b.latenesses) n l)) g)) h

  pub false_short : Long n b → is_too_short n b ≡ false
  false_short h =
      or_from ranks_short (instants_short || latenesses_short) (le-ltb (length b.ranks) n h.0)
      (or_from instants_short latenesses_short (le-ltb (length b.instants) n h.1) (le-ltb (length b.latenesses) n h.2))

-- ---- what certify answers
module _ (seat : SeatRule) (ops : List Paired) (p : List ℕ) where
  pub missing_is : (o : Option ℕ) → Lowest (unplaced p) 0 (length ops) o → missing ops p ≡ o
  missing_is o h = same_lowest (unplaced p) 0 (length ops) (missing ops p) o (lowest_is (unplaced p) 0 (length ops)) h

  -- the answer where no step is missing
  abbrev pub by_size : Buffers → Result Certificate DocketFault
  by_size b = cond (is_too_short (length ops) b) (Err (BufferTooShort (length ops))) (Ok (certificate_of seat ops p))

  pub answer_by : (b : Buffers) (o : Option ℕ) → missing ops p ≡ o → certify_answer seat ops p b ≡ unless_missing p o (by_size b)
  answer_by b o e = ap (λ (m : Option ℕ). unless_missing p m (by_size b)) e

  -- what a granted certificate is
  pub granted_is : (b : Buffers) (c : Certificate) → certify_answer seat ops p b ≡ Ok c → c ≡ certificate_of seat ops p
  granted_is b c e =
      elim (missing ops p) as (λ o. unless_missing p o (by_size b) ≡ Ok c → c ≡ certificate_of seat ops p) [
        | Some a ↦ λ g. let z : ◌≡◌ {A = ℕ} 0 1 = cc in absurd (omega arith)
        | None ↦ cond_both (is_too_short (length ops) b) (Err (BufferTooShort (length ops))) (Ok (certificate_of seat ops p)) (λ a. a ≡ Ok c → c ≡ certificate_of seat ops p)
            (λ s g. let z : ◌≡◌ {A = ℕ} 0 1 = cc in absurd (omega arith)) (λ s g. cc)
      ] e

  -- a certificate that is granted had buffers long enough
  pub granted_long : (b : Buffers) → is_ok (certify_answer seat ops p b) ≡ true → is_too_short (length ops) b ≡ false
  granted_long b e =
      elim (missing ops p) as (λ o. is_ok (unless_missing p o (by_size b)) ≡ true → is_too_short (length ops) b ≡ false) [
        | Some a ↦ λ g. absurd (both_ways false refl g)
        | None ↦ cond_both (is_too_short (length ops) b) (Err (BufferTooShort (length ops))) (Ok (certificate_of seat ops p)) (λ a. is_ok a ≡ true → is_too_short (length ops) b ≡ false)
            (λ s g. absurd (both_ways false refl g)) (λ s g. s)
      ] e

module _ (seat : SeatRule) (ops : List Paired) (k : ℕ) (p : List ℕ) where
  -- where no step is missing, as many are placed as there are operations
  pub all_placed : Placed seat ops k p → ((c : ℕ) → 0 ≤ c → c < 0 + length ops → unplaced p c ≡ false) → length p ≡ length ops
  all_placed h f =
      sym (sum_below_times (length ops) p (placed_known seat ops k p [] [] h))
      ∙ sum_below_ones (length ops) (λ a. times a p) (λ a l. omega (arith, eqb-false (times a p) 0 (f a (omega arith) (omega arith)), placed_once seat ops k p [] [] (λ b. omega arith) h a))

  pub granted_true : Placed seat ops k p → (b : Buffers) → is_ok (certify_answer seat ops p b) ≡ true → TrueOrder seat ops k p
  granted_true h b e =
      elim (missing ops p) as (λ o. Lowest (unplaced p) 0 (length ops) o → is_ok (unless_missing p o (by_size seat ops p b)) ≡ true → TrueOrder seat ops k p) [
        | Some a ↦ λ g q. absurd (both_ways false refl q)
        | None ↦ λ g q. true_of_placed seat ops k p h (all_placed h g)
      ] (lowest_is (unplaced p) 0 (length ops)) e

  none_missing : TrueOrder seat ops k p → missing ops p ≡ None
  none_missing t =
      elim (missing ops p) as (λ o. Lowest (unplaced p) 0 (length ops) o → o ≡ None)
      [ Some a ↦ λ g. absurd (omega (arith, eqb-true (times a p) 0 g.2, t.timed.once a (omega arith))) | None ↦ λ g. refl ] (lowest_is (unplaced p) 0 (length ops))

  pub true_granted : TrueOrder seat ops k p → (b : Buffers) → is_too_short (length ops) b ≡ false → certify_answer seat ops p b ≡ Ok (certificate_of seat ops p)
  true_granted t b s =
      answer_by seat ops p b None (none_missing t) ∙ cond-false (is_too_short (length ops) b) (Err (BufferTooShort (length ops))) (Ok (certificate_of seat ops p)) s

  -- the three lists of a certificate have an entry for each operation
  pub length_errors : TrueOrder seat ops k p → length (rank_errors seat ops p) ≡ length ops
  length_errors t = length_ranks seat ops p [] ∙ (placed_of_true seat ops k p t).1

  pub length_instants : TrueOrder seat ops k p → length (earliest ops p) ≡ length ops
  length_instants t = length_earliest ops 0 p ∙ (placed_of_true seat ops k p t).1

  pub length_latenesses : length (latenesses_of seat ops p) ≡ length ops
  length_latenesses = length-map-range_with_len (λ a. lateness seat ops a p) 0 (length ops)

  -- the written rank errors and latenesses add up
  pub sums : TrueOrder seat ops k p → (b : Buffers)
      → (sum (take (length ops) (written seat ops p b (Ok (certificate_of seat ops p))).ranks) ≡ passings_over seat ops p)
      × (sum (take (length ops) (written seat ops p b (Ok (certificate_of seat ops p))).latenesses) ≡ passings_over seat ops p)
  sums t b = (
    ap sum (take_over (rank_errors seat ops p) b.ranks (length ops) (length_errors t)) ∙ add_up seat ops k p (placed_of_true seat ops k p t).0,
    ap sum (take_over (latenesses_of seat ops p) b.latenesses (length ops) length_latenesses) ∙ sum_values (λ a. lateness seat ops a p) (length ops),
  )
