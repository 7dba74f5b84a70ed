-- The elements of an array that calls made, one at each index. Assumes nothing.
use Rattle.std.proofs.Common.{◌≡◌, ℕ, zero, suc, ◌+◌, ◌<◌, ◌≤◌, List, get_or, sym, subst, ap, ◌∙◌, ⊎_elim, arith}
use Rattle.std.proofs.lemmas.Bool.{cases_eq}
use Rattle.std.specs.Fn.{Mut, Called}
use Rattle.std.specs.Array.{IsFromFnResultFrom, IsFromFnResult}

-- calls that leave f as it is, and give what `of` says of the index
module _ {F B : Type 0} {g : Mut F (ℕ × Unit {0}) B} {f : F} (ys : List B) (of : ℕ → B) (call : (x : ℕ) (y : B) (q : F) → Called g f (x, tt) y q → (y ≡ of x) × (q ≡ f)) where
  made_from : (n i : ℕ) → IsFromFnResultFrom g f ys i n → (x : ℕ) (d : B) → i ≤ x → x < i + n → get_or ys x d ≡ of x
  made_from zero i r x d low high = absurd (omega arith)
  made_from (suc n) i r x d low high =
      let e = call i r.1 r.0 r.3 in
      ⊎_elim
      (λ (s : x ≡ i). ap (λ (k : ℕ). get_or ys k d) s ∙ r.2.1 d ∙ e.0 ∙ sym (ap of s))
      (λ (s : x ≡ i → ⊥). made_from n (i + 1) (subst (λ (p : F). IsFromFnResultFrom g p ys (i + 1) n) e.1 r.4) x d (omega arith) (omega arith))
      (cases_eq x i)

  pub made : {n : ℕ} → IsFromFnResult g f ys n → (x : ℕ) (d : B) → x < n → get_or ys x d ≡ of x
  made {n} r x d h = made_from n 0 r.each x d (omega arith) (omega arith)
