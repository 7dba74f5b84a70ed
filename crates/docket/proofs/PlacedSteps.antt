-- A step written down, and taken out again. Assumes nothing.
use Rattle.std.proofs.Common.{◌≡◌, ℕ, zero, suc, ◌+◌, ◌-◌, ◌<◌, ◌≤◌, Bool, true, false, cond, not, eqb, List, [], ◌∷◌, ◌++◌, length, get_or, take, set, Some, Option, sym, refl, ap, ◌∙◌, ⊎_elim, arith}
use Rattle.std.specs.List.{AllByRecursion, position, position_from}
use Rattle.std.proofs.lemmas.List.{get_or-take, get_or-set_same, get_or-set_other, length-take-le, take_more, take_more_set}
use Rattle.std.proofs.ByRecursion.{All-from_get_or}
use Rattle.std.proofs.lemmas.Iterator.Adapters.{position_from-zero}
use Rattle.std.proofs.lemmas.Bool.{cases_lt, cases_eq, eqb-true, eq-eqb, ne_eqb, not-false}
use Rattle.giving.specs.Lists.{times, Once}
use Rattle.giving.proofs.Counts.{times_push, times_self, times_other}
use Rattle.order.proofs.Sums.{sum_below_times, sum_below_full}
use Rattle.calls.specs.Rules.{lowest}
use Rattle.docket.specs.declared.entry.Entry.{Entry}
use Rattle.docket.specs.Kept.{entry_of, StepsAreOperations, Flagged}
use Rattle.docket.specs.Moves.{with_flag, changed_at}
use Rattle.docket.proofs.Table.{changed_here, changed_there}

known_all : (n m : ℕ) (ss : List ℕ) → m ≤ length ss → StepsAreOperations n ss m → AllByRecursion (λ x. x < n) (take m ss)
known_all n m ss l h =
    let e = length-take-le m ss l in
    All-from_get_or (λ (x : ℕ). x < n) (take m ss) 0 (λ i il. let im : i < m = omega arith in rw get_or-take (h i im))

-- the flag is off, so the operation is not among the steps
pub unflagged : (b : Bool) (t : ℕ) → b ≡ not (eqb t 0) → b ≡ false → t ≡ 0
unflagged b t e f = eqb-true t 0 (not-false (eqb t 0) (sym e ∙ f))

-- while an operation is not placed, there is room for a step
pub room : (n m x : ℕ) (ss : List ℕ) → m ≤ length ss → StepsAreOperations n ss m → Once (take m ss) → x < n → times x (take m ss) ≡ 0 → m < n
room n m x ss l known once xn z =
    ⊎_elim
    (λ (h : m < n). h)
    (λ (h : n ≤ m).
    let s = sum_below_times n (take m ss) (known_all n m ss l known) in
    let e = length-take-le m ss l in
    let one : times x (take m ss) ≡ 1 = sum_below_full n (λ a. times a (take m ss)) once (omega arith) x xn in
    absurd (omega arith))
    (cases_lt m n)

module _ (ss : List ℕ) (m x : ℕ) (l : m < length ss) where
  pub known_added : (n : ℕ) → StepsAreOperations n ss m → x < n → StepsAreOperations n (set ss m x) (m + 1)
  known_added n known xn i il =
      ⊎_elim
      (λ (e : i ≡ m). let g : get_or (set ss m x) i 0 ≡ x = ap (λ (j : ℕ). get_or (set ss m x) j 0) e ∙ get_or-set_same ss m x 0 l in omega arith)
      (λ (e : i ≡ m → ⊥). let g = get_or-set_other ss m i x 0 e in omega (arith, known i (omega (arith, e))))
      (cases_eq i m)

  pub once_added : Once (take m ss) → times x (take m ss) ≡ 0 → Once (take (m + 1) (set ss m x))
  once_added once z y =
      let p = ap (times y) (take_more_set ss m x l) in
      ⊎_elim
      (λ (e : y ≡ x). omega (arith, times_self x (take m ss), ap (λ (v : ℕ). times v (take m ss ++ x ∷ [])) e))
      (λ (e : y ≡ x → ⊥). omega (arith, times_other y x (take m ss) e, once y))
      (cases_eq y x)

  pub flagged_added : (es : List Entry) (n : ℕ) → x < length es → Flagged es n ss m → Flagged (changed_at (with_flag true) es x) n (set ss m x) (m + 1)
  flagged_added es n xl flagged y yn =
      let p = ap (times y) (take_more_set ss m x l) in
      ⊎_elim
      (λ (e : y ≡ x).
      let t : times y (take (m + 1) (set ss m x)) ≡ times x (take m ss) + 1 = p ∙ ap (λ (v : ℕ). times v (take m ss ++ x ∷ [])) e ∙ times_self x (take m ss) in
      let f : eqb (times y (take (m + 1) (set ss m x))) 0 ≡ false = ne_eqb _ _ (λ z. omega arith) in
      let g = changed_here (λ (v : Entry). v.placed) (with_flag true) es x y e (omega arith) in
      g ∙ sym (ap not f))
      (λ (e : y ≡ x → ⊥).
      let t : times y (take (m + 1) (set ss m x)) ≡ times y (take m ss) = p ∙ times_other y x (take m ss) e in
      let g = changed_there (λ (v : Entry). v.placed) (with_flag true) es x y e in
      g ∙ flagged y yn ∙ sym (ap (λ (v : ℕ). not (eqb v 0)) t))
      (cases_eq y x)

module _ (ss : List ℕ) (m x : ℕ) (h : 0 < m) (l : m ≤ length ss) (is : x ≡ get_or ss (m - 1) 0) where
  pub last_step : take m ss ≡ take (m - 1) ss ++ x ∷ []
  last_step =
      let back : m ≡ m - 1 + 1 = omega arith in
      ap (λ (k : ℕ). take k ss) back ∙ take_more ss (m - 1) 0 (omega arith) ∙ ap (λ (v : ℕ). take (m - 1) ss ++ v ∷ []) (sym is)

  pub once_removed : Once (take m ss) → Once (take (m - 1) ss)
  once_removed once y = omega (arith, ap (times y) last_step, times_push y x (take (m - 1) ss), once y)

  none_before : Once (take m ss) → times x (take (m - 1) ss) ≡ 0
  none_before once = omega (arith, ap (times x) last_step, times_self x (take (m - 1) ss), once x)

  pub flagged_removed : (es : List Entry) (n : ℕ) → x < length es → Once (take m ss) → Flagged es n ss m → Flagged (changed_at (with_flag false) es x) n ss (m - 1)
  flagged_removed es n xl once flagged y yn =
      let p = ap (times y) last_step in
      ⊎_elim
      (λ (e : y ≡ x).
      let t : times y (take (m - 1) ss) ≡ 0 = ap (λ (v : ℕ). times v (take (m - 1) ss)) e ∙ none_before once in
      let f : eqb (times y (take (m - 1) ss)) 0 ≡ true = eq-eqb _ _ t in
      let g = changed_here (λ (v : Entry). v.placed) (with_flag false) es x y e (omega arith) in
      g ∙ sym (ap not f))
      (λ (e : y ≡ x → ⊥).
      let t : times y (take m ss) ≡ times y (take (m - 1) ss) = p ∙ times_other y x (take (m - 1) ss) e in
      let g = changed_there (λ (v : Entry). v.placed) (with_flag false) es x y e in
      g ∙ flagged y yn ∙ ap (λ (v : ℕ). not (eqb v 0)) t)
      (cases_eq y x)

-- ---- the lowest that passes
lowest_from : (t : ℕ → Bool) (p : Entry → Bool) (es : List Entry) (i : ℕ) → ((k : ℕ) → k < length es → t (i + k) ≡ p (entry_of es k)) → position_from p i es ≡ lowest t i (length es)
lowest_from t p [] i h = refl
lowest_from t p (e ∷ es) i h =
    let z : i ≡ i + 0 = omega arith in
    let here : p e ≡ t i = sym (ap t z ∙ h 0 (omega arith)) in
    let n : i + 1 ≡ suc i = omega arith in
    let next : position_from p (i + 1) es ≡ lowest t (suc i) (length es) =
    ap (λ (j : ℕ). position_from p j es) n ∙ lowest_from t p es (suc i) (λ k l. let s : suc i + k ≡ i + suc k = omega arith in ap t s ∙ h (suc k) (omega arith)) in
    ap (λ (b : Bool). cond b (Some i) (position_from p (i + 1) es)) here ∙ ap (λ (o : Option ℕ). cond (t i) (Some i) o) next

pub lowest_position : (t : ℕ → Bool) (p : Entry → Bool) (es : List Entry) (n : ℕ) → length es ≡ n → ((k : ℕ) → k < n → t k ≡ p (entry_of es k)) → position p es ≡ lowest t 0 n
lowest_position t p es n e h =
    position_from-zero p es ∙ lowest_from t p es 0 (λ k l. let z : 0 + k ≡ k = omega arith in ap t z ∙ h k (omega arith)) ∙ ap (lowest t 0) e

pub lowest_ext : (t u : ℕ → Bool) (i n : ℕ) → ((b : ℕ) → b < i + n → t b ≡ u b) → lowest t i n ≡ lowest u i n
lowest_ext t u i zero h = refl
lowest_ext t u i (suc n) h =
    ap (λ (b : Bool). cond b (Some i) (lowest t (suc i) n)) (h i (omega arith))
    ∙ ap (λ (o : Option ℕ). cond (u i) (Some i) o) (lowest_ext t u (suc i) n (λ b l. h b (omega arith)))
