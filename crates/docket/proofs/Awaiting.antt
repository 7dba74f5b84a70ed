-- The ends of the operations that are not placed. Assumes nothing.
use Rattle.std.proofs.Common.{◌≡◌, ℕ, zero, suc, ◌+◌, ◌-◌, ◌*◌, ◌/◌, ◌^◌, ◌<◌, ◌≤◌, min, Bool, true, false, not, ◌&&◌, ltb, List, length, get_or, set, take, Some, None, sym, refl, ap, ◌∙◌, ⊎_elim, arith}
use Rattle.std.proofs.lemmas.List.{get_or-take, get_or-set_same, get_or-set_other, length-take-le}
use Rattle.std.proofs.lemmas.Bool.{cases_eq, cases_Bool, lt-ltb, le-ltb, cond-true, cond-false}
use Rattle.std.proofs.lemmas.Bool.Decides.{nat_tests}
use Rattle.calls.specs.Rules.{lowest}
use Rattle.docket.specs.declared.entry.Entry.{Entry}
use Rattle.docket.specs.declared.ledger.Ledger.{Ledger}
use Rattle.docket.specs.Kept.{blank, entry_of, end_at, Lesser, end_if, awaited_end, Awaits}
use Rattle.docket.specs.Moves.{waits, with_late, with_flag, changed_at, changed_all}
use Rattle.docket.proofs.Table.{keeps_all, changed_here, changed_there}

-- ---- the tree
-- what stands at the place q is the lesser of the two below it
abbrev pub LesserAt : List ℕ → ℕ → Type 0
LesserAt ts q = get_or ts q 0 ≡ min (get_or ts (2 * q) 0) (get_or ts (2 * q + 1) 0)

module _ (ts : List ℕ) (p v : ℕ) where
  -- the lesser of the two, written at its place
  pub put_here : 1 ≤ p → p < length ts → v ≡ min (get_or ts (2 * p) 0) (get_or ts (2 * p + 1) 0) → (q : ℕ) → q ≡ p → LesserAt (set ts p v) q
  put_here pos room is q e =
      let own : get_or (set ts p v) q 0 ≡ v = ap (λ (k : ℕ). get_or (set ts p v) k 0) e ∙ get_or-set_same ts p v 0 room in
      let left : get_or (set ts p v) (2 * q) 0 ≡ get_or ts (2 * p) 0 =
      get_or-set_other ts p (2 * q) v 0 (λ z. omega arith) ∙ ap (λ (k : ℕ). get_or ts (2 * k) 0) e in
      let right : get_or (set ts p v) (2 * q + 1) 0 ≡ get_or ts (2 * p + 1) 0 =
      get_or-set_other ts p (2 * q + 1) v 0 (λ z. omega arith) ∙ ap (λ (k : ℕ). get_or ts (2 * k + 1) 0) e in
      omega (arith, own, left, right, is)

  -- any instant, written elsewhere
  pub put_there : (q : ℕ) → (q ≡ p → ⊥) → (q ≡ p / 2 → ⊥) → 1 ≤ q → LesserAt ts q → LesserAt (set ts p v) q
  put_there q me above pos was =
      let own = get_or-set_other ts p q v 0 me in
      let left = get_or-set_other ts p (2 * q) v 0 (λ z. above (omega arith)) in
      let right = get_or-set_other ts p (2 * q + 1) v 0 (λ z. above (omega arith)) in
      omega (arith, own, left, right, was)

-- where the three are as they were
pub kept_at : (ts us : List ℕ) (q : ℕ) → get_or us q 0 ≡ get_or ts q 0 → get_or us (2 * q) 0 ≡ get_or ts (2 * q) 0 → get_or us (2 * q + 1) 0 ≡ get_or ts (2 * q + 1) 0 → LesserAt ts q → LesserAt us q
kept_at ts us q own left right was = omega (arith, own, left, right, was)

-- the soonest stands at 1
soonest_from : (ts : List ℕ) → Lesser ts → (n i : ℕ) → i ≤ n → 1 ≤ i → i < 2048 → get_or ts 1 0 ≤ get_or ts i 0
soonest_from ts lesser zero i low pos high = absurd (omega arith)
soonest_from ts lesser (suc n) i low pos high =
    ⊎_elim
    (λ (e : i ≡ 1). omega (arith, ap (λ (k : ℕ). get_or ts k 0) e))
    (λ (e : i ≡ 1 → ⊥).
    let two : 2 ≤ i = omega (arith, e) in
    let above = soonest_from ts lesser n (i / 2) (omega arith) (omega arith) (omega arith) in
    let here = lesser (i / 2) (omega arith) (omega arith) in
    ⊎_elim
    (λ (even : i ≡ 2 * (i / 2)). omega (arith, above, here, ap (λ (k : ℕ). get_or ts k 0) even))
    (λ (odd : i ≡ 2 * (i / 2) → ⊥). let is : i ≡ 2 * (i / 2) + 1 = omega (arith, odd) in omega (arith, above, here, ap (λ (k : ℕ). get_or ts k 0) is))
    (cases_eq i (2 * (i / 2))))
    (cases_eq i 1)

soonest_at : (ts : List ℕ) → Lesser ts → (x : ℕ) → x < 1024 → get_or ts 1 0 ≤ end_at ts x
soonest_at ts lesser x h = soonest_from ts lesser (1024 + x) (1024 + x) (omega arith) (omega arith) (omega arith)

-- ---- where no scan is needed
lowest_none : (t : ℕ → Bool) (i n : ℕ) → ((b : ℕ) → b < i + n → t b ≡ false) → lowest t i n ≡ None
lowest_none t i zero h = refl
lowest_none t i (suc n) h =
    cond-false (t i) (Some i) (lowest t (suc i) n) (h i (omega arith)) ∙ lowest_none t (suc i) n (λ b l. h b (omega arith))

-- where the soonest end is not before the start, no operation waits
pub none_ended : (l : Ledger) (start : ℕ) → start ≤ get_or l.awaited.least 1 0 → None ≡ lowest (waits l.entries start) 0 l.count
none_ended l start late =
    sym (lowest_none (waits l.entries start) 0 l.count
    (λ b h.
    let e : Entry = entry_of l.entries b in
    ⊎_elim
    (λ (t : e.placed ≡ true). ap (λ (v : Bool). not v && ltb e.paired.end start) t)
    (λ (t : e.placed ≡ false).
    let on : (ltb b l.count && not e.placed) ≡ true = ap (λ (v : Bool). v && not e.placed) (lt-ltb b l.count (omega arith)) ∙ ap not t in
    let end : end_at l.awaited.least b ≡ e.paired.end = l.ends b (omega arith) ∙ cond-true (ltb b l.count && not e.placed) _ _ on in
    let f : ltb e.paired.end start ≡ false = le-ltb _ _ (omega (arith, end, soonest_at l.awaited.least l.awaited.lesser b (omega arith))) in
    ap (λ (v : Bool). not v && ltb e.paired.end start) t ∙ f)
    (cases_Bool e.placed)))

-- ---- how the ends are kept
-- a table with no step
pub awaits_all : (ts : List ℕ) (n : ℕ) (es : List Entry) → n ≤ length es → ((x : ℕ) → (entry_of es x).placed ≡ false)
    → ((x : ℕ) → x < 1024 → end_at ts x ≡ end_if (ltb x (length (take n es))) (entry_of (take n es) x)) → Awaits ts n es
awaits_all ts n es few none was = λ x h.
    grind (arith, nat_tests, was x h, none x, length-take-le n es few, get_or-take n es x blank)

-- what stands past the operations of a table
pub past_ends : (ts : List ℕ) (es : List Entry) → ((x : ℕ) → x < 1024 → end_at ts x ≡ end_if (ltb x (length es)) (entry_of es x))
    → (q : ℕ) → 1024 + length es ≤ q → q < 2048 → get_or ts q 0 ≡ 2 ^ 64 - 1
past_ends ts es was q low high =
    let x = q - 1024 in
    let at : q ≡ 1024 + x = omega arith in
    ap (λ (k : ℕ). get_or ts k 0) at ∙ was x (omega arith) ∙ cond-false (ltb x (length es)) _ _ (le-ltb x (length es) (omega arith))

-- a flag set at the operation x, and what then stands for it
pub awaits_flag : (b : Bool) (ts us : List ℕ) (n x : ℕ) (es : List Entry) → x < n → n ≤ length es
    → end_at us x ≡ end_if (not b) (entry_of es x) → ((y : ℕ) → (y ≡ x → ⊥) → end_at us y ≡ end_at ts y) → Awaits ts n es → Awaits us n (changed_at (with_flag b) es x)
awaits_flag b ts us n x es within long own others was = λ y h.
    ⊎_elim
    (λ (e : y ≡ x).
    ap (end_at us) e ∙ own
    ∙ ap (λ (v : Bool). end_if (v && not b) (entry_of es x)) (sym (lt-ltb x n within))
    ∙ ap (λ (v : ℕ). awaited_end n v (with_flag b (entry_of es v))) (sym e)
    ∙ sym (changed_here (awaited_end n y) (with_flag b) es x y e (omega arith)))
    (λ (e : y ≡ x → ⊥). others y e ∙ was y h ∙ sym (changed_there (awaited_end n y) (with_flag b) es x y e))
    (cases_eq y x)

-- changed latenesses leave them
pub awaits_late : (f : ℕ → ℕ) (l : Ledger) (fs : List Entry) (cs : List ℕ) → fs ≡ changed_all (with_late f) l.entries cs → Awaits l.awaited.least l.count fs
awaits_late f l fs cs is = λ x h.
    l.ends x h
    ∙ sym (ap (λ (v : List Entry). awaited_end l.count x (entry_of v x)) is ∙ keeps_all (awaited_end l.count x) (with_late f) (λ v. refl) cs l.entries x)
