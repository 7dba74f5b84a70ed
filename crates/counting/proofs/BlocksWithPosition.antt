-- The blocks that have position q, from each to the next. Assumes nothing.
use Rattle.std.proofs.Common.{◌≡◌, ℕ, ◌+◌, ◌-◌, ◌<◌, ◌≤◌, ◌≢◌, List, length, get_or, set, refl, ⊎_elim, arith}
use Rattle.std.proofs.lemmas.List.{get_or-set_same, get_or-set_other}
use Rattle.std.proofs.lemmas.Bool.{cases_order}
use Rattle.counting.specs.Blocks.{block, counted_from}
use Rattle.counting.specs.LowestBit.{block_le, block_some, block_inside, block_next}
use Rattle.counting.specs.Sums.{counted_from_on, counted_from_off}

module _ (q less more : ℕ) where
  -- the sum x at position k became y as position q changed
  abbrev pub SumChanged : ℕ → ℕ → ℕ → Type 0
  SumChanged k x y = y + (counted_from q less k + counted_from q more (k - block k)) ≡ x + (counted_from q more k + counted_from q less (k - block k))

  -- changed up to p: the sums before it are up to date, and those from it on are as they were
  pub record ChangedUpTo (p : ℕ) (old new : List ℕ) : Type 0 where
    pub past : q ≤ p
    pub near : p ≤ 2048
    pub has : p - block p < q
    pub done : (k : ℕ) → 0 < k → k < p → k ≤ 1024 → SumChanged k (get_or old k 0) (get_or new k 0)
    pub rest : (k : ℕ) → p ≤ k → get_or new k 0 ≡ get_or old k 0

  pub changed_none : (old : List ℕ) → 0 < q → q ≤ 1024 → ChangedUpTo q old old
  changed_none old s h = record {
    past = omega arith;
    near = omega arith;
    has = let b = block_some q in omega arith;
    done = λ k k0 kp k1. omega (arith, counted_from_off q less k kp, counted_from_off q more k kp, counted_from_off q less (k - block k) (omega arith), counted_from_off q more (k - block k) (omega arith));
    rest = λ k h. refl;
  }

  -- at p itself
  pub here : (x y p : ℕ) → q ≤ p → p - block p < q → y + less ≡ x + more → SumChanged p x y
  here x y p on off e = omega (arith, counted_from_on q less p on, counted_from_on q more p on, counted_from_off q less (p - block p) off, counted_from_off q more (p - block p) off)

  -- a block that ends between p and the end of the next block with q has not q
  skipped : (x p k : ℕ) → 0 < q → q ≤ p → p ≤ 1024 → p < k → k < p + block p → SumChanged k x x
  skipped x p k s on w a b =
      let i = block_inside p k (omega arith) (omega arith) a b in
      omega (arith, counted_from_on q less k (omega arith), counted_from_on q more k (omega arith), counted_from_on q less (k - block k) (omega arith), counted_from_on q more (k - block k) (omega arith))

  pub changed_more : (p v : ℕ) (old new : List ℕ) → 0 < q → p ≤ 1024 → p < length new → v + less ≡ get_or old p 0 + more → ChangedUpTo p old new → ChangedUpTo (p + block p) old (set new p v)
  changed_more p v old new s w l e g =
      let some = block_some p in
      let le = block_le p (omega arith) (omega arith) in
      let next = block_next p (omega arith) (omega arith) in
      record {
        past = omega arith;
        near = omega arith;
        has = omega arith;
        done = λ k k0 kp k1.
            ⊎_elim
            (λ (t : k ≡ p). rw t (rw get_or-set_same (here (get_or old p 0) v p g.past g.has e)))
            (⊎_elim
            (λ (h : k < p). let ne : k ≢ p = omega arith in rw get_or-set_other (g.done k k0 h k1))
            (λ (h : p < k). let ne : k ≢ p = omega arith in let kept = g.rest k (omega arith) in rw (get_or-set_other, kept) (skipped (get_or old k 0) p k s g.past w h kp)))
            (cases_order k p);
        rest = λ k h. let ne : k ≢ p = omega arith in rw get_or-set_other (g.rest k (omega arith));
      }
