-- The slots and the positions after an add and after a take. Assumes nothing.
use Rattle.std.proofs.Common.{◌≡◌, ℕ, zero, suc, ◌+◌, ◌<◌, ◌≢◌, ◌⊎◌, Option, Some, None, List, length, get_or, set, replicate, sym, refl, ap, ◌∙◌, subst, inl, inr, ⊎_elim, arith}
use Rattle.std.proofs.lemmas.List.{get_or-set_same, get_or-set_other}
use Rattle.std.proofs.lemmas.Bool.{cases_eq}
use Rattle.counting.specs.declared.slot.Slot.{Slot}
use Rattle.counting.specs.Slots.{number_of, slot_of, FreeFrom, HasPosition, StandsAtPosition}

-- what a list has at place k after x was written at place i
abbrev Written : {A : Type 0} → List (Option A) → ℕ → Option A → ℕ → Type 0
Written xs i x k = ((k ≡ i) × (get_or (set xs i x) k None ≡ x)) ⊎ ((k ≢ i) × (get_or (set xs i x) k None ≡ get_or xs k None))

written : {A : Type 0} (xs : List (Option A)) (i : ℕ) (x : Option A) (k : ℕ) → i < length xs → Written xs i x k
written {A} xs i x k h =
    ⊎_elim
    (λ (e : k ≡ i). inl (e, ap (λ (m : ℕ). get_or {A = Option A} (set xs i x) m None) e ∙ get_or-set_same xs i x None h))
    (λ (ne : k ≢ i). inr (ne, get_or-set_other xs i k x None ne))
    (cases_eq k i)

module _ (s : List (Option ℕ)) (ps : List (Option Slot)) (slot : Slot) (c : ℕ) (in' : slot.number < length s) (cin : c < length ps) (cs : c < 1024) (l : FreeFrom slot.number s) (t : HasPosition s ps) (b : StandsAtPosition s ps) (z : get_or ps c None ≡ None) where
  free_add : FreeFrom (slot.number + 1) (set s slot.number (Some c))
  free_add k h = let ne : k ≢ slot.number = omega arith in rw get_or-set_other (l k (omega arith))

  placed_add : HasPosition (set s slot.number (Some c)) (set ps c (Some slot))
  placed_add k d u =
      ⊎_elim
      (λ (e : (k ≡ slot.number) × (get_or (set s slot.number (Some c)) k None ≡ Some c)).
      let same : d ≡ c = cc in
      (omega arith, ap (slot_of (set ps c (Some slot))) same ∙ ap number_of (get_or-set_same ps c (Some slot) None cin) ∙ ap Some (sym e.0)))
      (λ (e : (k ≢ slot.number) × (get_or (set s slot.number (Some c)) k None ≡ get_or s k None)).
      let f = t k d (sym e.1 ∙ u) in
      let free = ap number_of z in
      let ne : d ≢ c = λ r. let g = ap (slot_of ps) r in cc in
      (f.0, ap number_of (get_or-set_other ps c d (Some slot) None ne) ∙ f.1))
      (written s slot.number (Some c) k in')

  back_add : StandsAtPosition (set s slot.number (Some c)) (set ps c (Some slot))
  back_add d k u =
      ⊎_elim
      (λ (e : (d ≡ c) × (get_or (set ps c (Some slot)) d None ≡ Some slot)).
      let there = ap number_of e.1 in
      let same : k ≡ slot.number = cc in
      ap (λ (m : ℕ). get_or (set s slot.number (Some c)) m None) same ∙ get_or-set_same s slot.number (Some c) None in' ∙ ap Some (sym e.0))
      (λ (e : (d ≢ c) × (get_or (set ps c (Some slot)) d None ≡ get_or ps d None)).
      let f = b d k (sym (ap number_of e.1) ∙ u) in
      let free = l slot.number (omega arith) in
      let ne : k ≢ slot.number = λ r. let g = ap (λ (m : ℕ). get_or s m None) r in cc in
      get_or-set_other s slot.number k (Some c) None ne ∙ f)
      (written ps c (Some slot) d cin)

  pub kept_add : (new : List (Option ℕ)) → new ≡ set s slot.number (Some c) → FreeFrom (slot.number + 1) new × HasPosition new (set ps c (Some slot)) × StandsAtPosition new (set ps c (Some slot))
  kept_add new e = subst (λ l. FreeFrom (slot.number + 1) l × HasPosition l (set ps c (Some slot)) × StandsAtPosition l (set ps c (Some slot))) (sym e) (free_add, placed_add, back_add)

module _ (s : List (Option ℕ)) (ps : List (Option Slot)) (n : ℕ) (slot : Slot) (c : ℕ) (in' : slot.number < length s) (cin : c < length ps) (l : FreeFrom n s) (t : HasPosition s ps) (b : StandsAtPosition s ps) (p : get_or ps c None ≡ Some slot) (q : get_or s slot.number None ≡ Some c) where
  free_take : FreeFrom n (set s slot.number None)
  free_take k h =
      ⊎_elim
      (λ (e : (k ≡ slot.number) × (get_or (set s slot.number None) k None ≡ None)). e.1)
      (λ (e : (k ≢ slot.number) × (get_or (set s slot.number None) k None ≡ get_or s k None)). e.1 ∙ l k h)
      (written s slot.number None k in')

  placed_take : HasPosition (set s slot.number None) (set ps c None)
  placed_take k d u =
      ⊎_elim
      (λ (e : (k ≡ slot.number) × (get_or (set s slot.number None) k None ≡ None)). absurd cc)
      (λ (e : (k ≢ slot.number) × (get_or (set s slot.number None) k None ≡ get_or s k None)).
      let f = t k d (sym e.1 ∙ u) in
      let there = ap number_of p in
      let ne : d ≢ c = λ r. let g = ap (slot_of ps) r in let same : k ≡ slot.number = cc in e.0 same in
      (f.0, ap number_of (get_or-set_other ps c d None None ne) ∙ f.1))
      (written s slot.number None k in')

  back_take : StandsAtPosition (set s slot.number None) (set ps c None)
  back_take d k u =
      ⊎_elim
      (λ (e : (d ≡ c) × (get_or (set ps c None) d None ≡ None)). let gone = ap number_of e.1 in absurd cc)
      (λ (e : (d ≢ c) × (get_or (set ps c None) d None ≡ get_or ps d None)).
      let f = b d k (sym (ap number_of e.1) ∙ u) in
      let ne : k ≢ slot.number = λ r. let g = ap (λ (m : ℕ). get_or s m None) r in let same : d ≡ c = cc in e.0 same in
      get_or-set_other s slot.number k None None ne ∙ f)
      (written ps c None d cin)

  pub kept_take : (new : List (Option ℕ)) → new ≡ set s slot.number None → FreeFrom n new × HasPosition new (set ps c None) × StandsAtPosition new (set ps c None)
  kept_take new e = subst (λ l. FreeFrom n l × HasPosition l (set ps c None) × StandsAtPosition l (set ps c None)) (sym e) (free_take, placed_take, back_take)

-- ---- nothing held
blank : {A : Type 0} (n k : ℕ) → get_or {A = Option A} (replicate n None) k None ≡ None
blank zero k = refl
blank (suc n) zero = refl
blank (suc n) (suc k) = blank n k

pub free_clear : (s : List (Option ℕ)) → s ≡ replicate 1024 None → (k : ℕ) → get_or s k None ≡ None
free_clear s e k = ap (λ (l : List (Option ℕ)). get_or l k None) e ∙ blank 1024 k

pub placed_clear : (s : List (Option ℕ)) (ps : List (Option Slot)) → s ≡ replicate 1024 None → HasPosition s ps
placed_clear s ps e k c u = let z = free_clear s e k in absurd cc

pub back_clear : (s : List (Option ℕ)) → StandsAtPosition s (replicate 1024 None)
back_clear s c k u = let z = ap number_of (blank {A = Slot} 1024 c) in absurd cc
