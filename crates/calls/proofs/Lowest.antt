-- The lowest number that passes a test is the only one that is so. Assumes nothing.
use Rattle.std.proofs.Common.{◌≡◌, ℕ, zero, suc, ◌+◌, ◌<◌, ◌≤◌, Bool, true, false, Some, None, Option, refl, ap, subst, ⊎_elim, arith}
use Rattle.std.proofs.lemmas.Bool.{cond_both, cases_eq, cases_order, both_ways}
use Rattle.calls.specs.Rules.{lowest}

abbrev pub Lowest : (ℕ → Bool) → ℕ → ℕ → Option ℕ → Type 0
Lowest t i n (Some b) = (i ≤ b) × (b < i + n) × (t b ≡ true) × ((c : ℕ) → i ≤ c → c < b → t c ≡ false)
Lowest t i n None = (c : ℕ) → i ≤ c → c < i + n → t c ≡ false

from_next : (t : ℕ → Bool) (i c : ℕ) → t i ≡ false → i ≤ c → (suc i ≤ c → t c ≡ false) → t c ≡ false
from_next t i c e l f = ⊎_elim (λ q. subst (λ (v : ℕ). t v ≡ false) q e) (λ q. f (omega arith)) (cases_eq i c)

step : (t : ℕ → Bool) (i n : ℕ) → t i ≡ false → (o : Option ℕ) → Lowest t (suc i) n o → Lowest t i (suc n) o
step t i n e (Some b) h = (omega arith, omega arith, h.2, λ c l u. from_next t i c e l (λ l'. h.3 c l' u))
step t i n e None h = λ c l u. from_next t i c e l (λ l'. h c l' (omega arith))

pub lowest_is : (t : ℕ → Bool) (i n : ℕ) → Lowest t i n (lowest t i n)
lowest_is t i zero = λ c l u. absurd (omega arith)
lowest_is t i (suc n) =
    cond_both (t i) (Some i) (lowest t (suc i) n) (Lowest t i (suc n))
    (λ e. (omega arith, omega arith, e, λ c l u. absurd (omega arith))) (λ e. step t i n e (lowest t (suc i) n) (lowest_is t (suc i) n))

pub same_lowest : (t : ℕ → Bool) (i n : ℕ) (o o' : Option ℕ) → Lowest t i n o → Lowest t i n o' → o ≡ o'
same_lowest t i n (Some b) (Some b') h h' =
    ⊎_elim (λ e. ap Some e)
    (⊎_elim (λ l. absurd (both_ways (t b) (h'.3 b h.0 l) h.2)) (λ l. absurd (both_ways (t b') (h.3 b' h'.0 l) h'.2))) (cases_order b b')
same_lowest t i n (Some b) None h h' = absurd (both_ways (t b) (h' b h.0 h.1) h.2)
same_lowest t i n None (Some b') h h' = absurd (both_ways (t b') (h b' h'.0 h'.1) h'.2)
same_lowest t i n None None h h' = refl
