-- What the answer of the rules to a step says of its operation. Assumes nothing.
use Rattle.std.proofs.Common.{◌≡◌, ℕ, ◌<◌, ◌≤◌, Bool, true, false, cond, leb, ltb, Some, None, Ok, Err, Option, sym, ap, ◌∙◌, ⊎_elim, arith}
use Rattle.std.proofs.lemmas.Bool.{cases_Bool, le-leb, lt-leb, leb-false, lt-ltb, le-ltb, cond-true, cond-false}
use Rattle.calls.specs.declared.fault.DocketFault.TheVariants.{NoSuchOperation, PlacedAlready, TooEarly, AboveBound}
use Rattle.calls.specs.Rules.{unless_early, bounded_rank, judged_answer}

module _ (m n x k : ℕ) (b : Bool) (w r : Option ℕ) where
  pub judged_in : x < n → judged_answer m n x k b w r ≡ cond b (Err (PlacedAlready m)) (unless_early m w (bounded_rank m k r))
  unfolding judged_answer
  judged_in h = cond-false _ _ _ (lt-leb n x h)

  pub judged_beyond : n ≤ x → Err (NoSuchOperation m) ≡ judged_answer m n x k b w r
  unfolding judged_answer
  judged_beyond h = sym (cond-true _ _ _ (le-leb n x h))

  pub judged_placed : x < n → b ≡ true → Err (PlacedAlready m) ≡ judged_answer m n x k b w r
  judged_placed h e = sym (judged_in h ∙ cond-true b _ _ e)

  judged_new : x < n → b ≡ false → (v : Option ℕ) → v ≡ w → unless_early m v (bounded_rank m k r) ≡ judged_answer m n x k b w r
  judged_new h e v is = sym (judged_in h ∙ cond-false b _ _ e ∙ sym (ap (λ (o : Option ℕ). unless_early m o (bounded_rank m k r)) is))

  pub judged_early : x < n → b ≡ false → (v : ℕ) → Some v ≡ w → Err (TooEarly m v) ≡ judged_answer m n x k b w r
  judged_early h e v is = judged_new h e (Some v) is

  -- with the rank error v
  module _ (v : ℕ) (found : Some v ≡ r) where
    judged_found : x < n → b ≡ false → None ≡ w → bounded_rank m k (Some v) ≡ judged_answer m n x k b w r
    judged_found h e free = ap (bounded_rank m k) found ∙ judged_new h e None free

    pub judged_above : x < n → b ≡ false → None ≡ w → k < v → Err (AboveBound m v) ≡ judged_answer m n x k b w r
    judged_above h e free above = sym (cond-true (ltb k v) _ _ (lt-ltb k v above)) ∙ judged_found h e free

    pub judged_within : x < n → b ≡ false → None ≡ w → v ≤ k → Ok v ≡ judged_answer m n x k b w r
    judged_within h e free within = sym (cond-false (ltb k v) _ _ (le-ltb k v within)) ∙ judged_found h e free

  pub judged_ok : (v : ℕ) → Ok v ≡ judged_answer m n x k b w r → (x < n) × (b ≡ false)
  unfolding judged_answer
  judged_ok v e =
      ⊎_elim
      (λ (t : leb n x ≡ true). let f = rw t at e in let z : ◌≡◌ {A = ℕ} 0 1 = cc in absurd (omega arith))
      (λ (t : leb n x ≡ false).
      ⊎_elim
      (λ (u : b ≡ true). let f = rw (t, u) at e in let z : ◌≡◌ {A = ℕ} 0 1 = cc in absurd (omega arith))
      (λ (u : b ≡ false). (leb-false n x t, u))
      (cases_Bool b))
      (cases_Bool (leb n x))
