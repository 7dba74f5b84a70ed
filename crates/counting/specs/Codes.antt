-- The codes that slots have, after a change of one. Assumes nothing.
use Rattle.std.specs.Prelude.{◌≡◌, ℕ, zero, suc, ◌+◌, ◌<◌, ◌≤◌, Option, Some, None, IsSome, List, [], ◌∷◌, ◌++◌, length, take, drop, count_by, ◌≢◌, slice_index, slice_index_or, slice_set, refl}
use Rattle.std.proofs.Common.{sym, ap, ◌∙◌, ⊎_elim, arith, take-append-drop, drop-cons}
use Rattle.std.specs.List.{remove}
use Rattle.std.proofs.lemmas.List.{take_all, get_or_at, set_split, append-nil, length-append, get_or-drop, get_or_past}
use Rattle.std.proofs.lemmas.List.Edits.{remove-append_right}
use Rattle.std.proofs.lemmas.List.Elements.{filter_map-append}
use Rattle.std.proofs.lemmas.List.Sums.{sum_by-cons}
use Rattle.std.proofs.Math.Nat.{sub_self}
use Rattle.std.proofs.Math.Numerals.{one-add}
use Rattle.std.proofs.lemmas.Bool.{cases_lt}
use Rattle.giving.specs.Lists.{times, place, without, Once, Below}
use Rattle.giving.proofs.Counts.{times_none, once_more}
use Rattle.giving.proofs.Places.{place_only, removed_without}
use Rattle.counting.specs.declared.slot.Slot.{Slot}
use Rattle.counting.specs.Blocks.{used, worth, used_upto}
use Rattle.counting.specs.Slots.{codes, slot_of, FreeFrom, HasPosition}
use Rattle.counting.specs.Sums.{used_upto_le}

-- ---- lists of slots: two of them, one more slot that is used or not, and none
pub codes_append : (xs ys : List (Option ℕ)) → codes (xs ++ ys) ≡ codes xs ++ codes ys
unfolding codes
codes_append xs ys = filter_map-append (λ slot. slot) xs ys

pub codes_used : (c : ℕ) (xs : List (Option ℕ)) → codes (Some c ∷ xs) ≡ c ∷ codes xs
unfolding codes
codes_used c xs = refl

pub codes_free : (xs : List (Option ℕ)) → codes (None ∷ xs) ≡ codes xs
unfolding codes
codes_free xs = refl

pub codes_empty : codes [] ≡ []
unfolding codes
codes_empty = refl

-- as many codes as used slots
length_used : (s : List (Option ℕ)) → length (codes s) ≡ count_by used s
unfolding codes
length_used [] = refl
length_used (None ∷ xs) = length_used xs
length_used (Some c ∷ xs) = ap suc (length_used xs) ∙ sym (sum_by-cons worth (Some c) xs ∙ one-add (count_by used xs))

-- of the first slots
pub length_codes : (s : List (Option ℕ)) (n : ℕ) → length (codes (take n s)) ≡ used_upto s n
unfolding used_upto
length_codes s n = length_used (take n s)

-- of all of them
pub length_all : (s : List (Option ℕ)) (n : ℕ) → length s ≤ n → length (codes s) ≡ used_upto s n
length_all s n h = ap (λ (l : List (Option ℕ)). length (codes l)) (sym (take_all n s h)) ∙ length_codes s n

codes_at : (s : List (Option ℕ)) (i c : ℕ) → i < length s → slice_index_or s i None ≡ Some c → codes s ≡ codes (take i s) ++ c ∷ codes (drop (suc i) s)
codes_at s i c h u =
    ap codes (sym (take-append-drop i s)) ∙ codes_append (take i s) (drop i s) ∙ ap (λ (l : List (Option ℕ)). codes (take i s) ++ codes l) (drop-cons s i None h)
    ∙ ap (λ (o : Option ℕ). codes (take i s) ++ codes (o ∷ drop (suc i) s)) u ∙ ap (λ (l : List ℕ). codes (take i s) ++ l) (codes_used c (drop (suc i) s))

codes_set : (s : List (Option ℕ)) (i : ℕ) (v : Option ℕ) → i < length s → codes (slice_set s i v) ≡ codes (take i s) ++ codes (v ∷ drop (suc i) s)
codes_set s i v h = ap codes (set_split s i v h) ∙ codes_append (take i s) (v ∷ drop (suc i) s)

-- where no slot is used there is no code
pub codes_none : (xs : List (Option ℕ)) → ((k : ℕ) → slice_index_or xs k None ≡ None) → codes xs ≡ []
codes_none [] f = codes_empty
codes_none (x ∷ xs) f = ap (λ (o : Option ℕ). codes (o ∷ xs)) (f 0) ∙ codes_free xs ∙ codes_none xs (λ k. f (suc k))

-- code c stands in some slot
abbrev InSlot : List (Option ℕ) → ℕ → Type 0
InSlot s c = (k : ℕ) × (slice_index_or s k None ≡ Some c)

later_slot : (x : Option ℕ) (xs : List (Option ℕ)) (c : ℕ) → InSlot xs c → InSlot (x ∷ xs) c
later_slot x xs c r = (suc r.0, r.1)

head_or : (c : ℕ) (xs : List (Option ℕ)) (L : List ℕ) → ((k : ℕ) → k < length L → InSlot xs (slice_index L k)) → (k : ℕ) → k < suc (length L) → InSlot (Some c ∷ xs) (slice_index (c ∷ L) k)
head_or c xs L f zero h = (0, refl)
head_or c xs L f (suc k) h = later_slot (Some c) xs (slice_index L k) (f k (omega arith))

source : (s : List (Option ℕ)) (k : ℕ) → k < length (codes s) → InSlot s (slice_index (codes s) k)
source [] k h = let l : k < 0 = rw codes_empty at h in absurd (omega arith)
source (None ∷ xs) k h = let e = codes_free xs in rw e (later_slot None xs (slice_index (codes xs) k) (source xs k (rw e at h)))
source (Some c ∷ xs) k h = let e = codes_used c xs in rw e (head_or c xs (codes xs) (source xs) k (rw e at h))

-- a code that stands in no slot is not among the codes
times_nowhere : (s : List (Option ℕ)) (c : ℕ) → (InSlot s c → ⊥) → times c (codes s) ≡ 0
times_nowhere s c f = times_none c (codes s) (λ k h e. let r = source s k h in f (r.0, r.1 ∙ ap Some e))

-- no code stands in two slots
abbrev Single : List (Option ℕ) → Type 0
Single s = (i j c : ℕ) → i < j → slice_index_or s i None ≡ Some c → slice_index_or s j None ≢ Some c

once_single : (s : List (Option ℕ)) → Single s → Once (codes s)
once_single [] o a = let e = ap (times a) codes_empty in omega arith
once_single (None ∷ xs) o a =
    let r = once_single xs (λ i j c ij u. o (suc i) (suc j) c (omega arith) u) a in
    let e = ap (times a) (codes_free xs) in
    omega arith
once_single (Some c ∷ xs) o a =
    let r = once_single xs (λ i j c ij u. o (suc i) (suc j) c (omega arith) u) a in
    let e = ap (times a) (codes_used c xs) in
    let z = times_nowhere xs c (λ h. o 0 (suc h.0) c (omega arith) refl h.1) in
    omega (arith, once_more a c (codes xs) z r)

-- by the positions no code stands twice, and each is below 1,024
pub codes_once : (s : List (Option ℕ)) (ps : List (Option Slot)) → HasPosition s ps → Once (codes s)
codes_once s ps t = once_single s (λ i j c ij u v. let a = t i c u in let b = t j c v in let e : Some i ≡ Some j = sym a.1 ∙ b.1 in let n : i ≡ j = cc in omega arith)

pub codes_below : (s : List (Option ℕ)) (ps : List (Option Slot)) → HasPosition s ps → Below 1024 (codes s)
codes_below s ps t a l = times_nowhere s a (λ h. let b = t h.0 a h.1 in omega arith)

-- a code without a position is not held
pub codes_absent : (s : List (Option ℕ)) (ps : List (Option Slot)) (c : ℕ) → HasPosition s ps → slot_of ps c ≡ None → times c (codes s) ≡ 0
codes_absent s ps c t z = times_nowhere s c (λ h. let e = (t h.0 c h.1).1 in cc)

-- a slot in which something stands is there: its number is below how many there are
pub within : {A : Type 0} (s : List (Option A)) (i : ℕ) (c : A) → slice_index_or s i None ≡ Some c → i < length s
within s i c u = ⊎_elim (λ (h : i < length s). h) (λ (h : length s ≤ i). let e = get_or_past s i None h in absurd cc) (cases_lt i (length s))

-- the code of a used slot stands at the count before the slot
pub code_at : (s : List (Option ℕ)) (i c : ℕ) → slice_index_or s i None ≡ Some c → (used_upto s i < length (codes s)) × (slice_index (codes s) (used_upto s i) ≡ c)
code_at s i c u =
    let e = codes_at s i c (within s i c u) u in
    let n = length_codes s i in
    let l = ap length e ∙ length-append (codes (take i s)) (c ∷ codes (drop (suc i) s)) in
    (omega arith, ap (λ (l : List ℕ). slice_index l (used_upto s i)) e ∙ get_or_at (codes (take i s)) c (codes (drop (suc i) s)) 0 (used_upto s i) n)

coded : (s : List (Option ℕ)) (i : ℕ) (slot : Option ℕ) → slice_index_or s i None ≡ slot → IsSome slot → (used_upto s i < length (codes s)) × (slice_index_or s i None ≡ Some (slice_index (codes s) (used_upto s i)))
coded s i None e u = absurd cc
coded s i (Some c) e u = let a = code_at s i c e in (a.0, e ∙ ap Some (sym a.1))

-- the same of a used slot, whatever its code
pub code_in : (s : List (Option ℕ)) (i : ℕ) → IsSome (slice_index_or s i None) → (used_upto s i < length (codes s)) × (slice_index_or s i None ≡ Some (slice_index (codes s) (used_upto s i)))
code_in s i u = coded s i (slice_index_or s i None) refl u

-- the place of a code is how many slots before its own are used
pub code_place : (s : List (Option ℕ)) (ps : List (Option Slot)) (c i : ℕ) → HasPosition s ps → slice_index_or s i None ≡ Some c → place c (codes s) ≡ used_upto s i
code_place s ps c i t e = let a = code_at s i c e in place_only c (used_upto s i) (codes s) (codes_once s ps t) a.0 a.1

-- with its slot emptied, a code has left, and the others are as before
pub codes_without : (s : List (Option ℕ)) (ps : List (Option Slot)) (c i : ℕ) → HasPosition s ps → slice_index_or s i None ≡ Some c → codes (slice_set s i None) ≡ without c (codes s)
codes_without s ps c i t e =
    let h = within s i c e in
    let A : List ℕ = codes (take i s) in
    let B : List ℕ = codes (drop (suc i) s) in
    let split : codes s ≡ A ++ c ∷ B = codes_at s i c h e in
    let p : place c (codes s) ≡ length A = code_place s ps c i t e ∙ sym (length_codes s i) in
    let left : codes (slice_set s i None) ≡ A ++ B = codes_set s i None h ∙ ap (λ (l : List ℕ). A ++ l) (codes_free (drop (suc i) s)) in
    let mid : remove (codes s) (place c (codes s)) ≡ A ++ B = ap (remove (codes s)) p ∙ ap (λ (l : List ℕ). remove l (length A)) split ∙ remove-append_right A (c ∷ B) (length A) (length A) refl (omega arith) ∙ ap (λ (n : ℕ). A ++ remove (c ∷ B) n) (sub_self (length A)) in
    left ∙ sym mid ∙ removed_without c (codes s)

-- the codes are those of the slots before n, where none from n on is used
codes_before : (s : List (Option ℕ)) (n : ℕ) → FreeFrom n s → codes s ≡ codes (take n s)
codes_before s n l =
    let rest : codes (drop n s) ≡ [] = codes_none (drop n s) (λ k. get_or-drop n s k None ∙ l (n + k) (omega arith)) in
    ap codes (sym (take-append-drop n s)) ∙ codes_append (take n s) (drop n s) ∙ ap (λ (l : List ℕ). codes (take n s) ++ l) rest ∙ append-nil (codes (take n s))

-- a code that is put behind the used slots comes last
pub codes_pushed : (s : List (Option ℕ)) (n c : ℕ) → n < length s → FreeFrom n s → codes (slice_set s n (Some c)) ≡ codes s ++ c ∷ []
codes_pushed s n c h l =
    let A : List ℕ = codes (take n s) in
    let none : codes (drop (suc n) s) ≡ [] = codes_none (drop (suc n) s) (λ k. get_or-drop (suc n) s k None ∙ l (suc n + k) (omega arith)) in
    codes_set s n (Some c) h ∙ ap (λ (l : List ℕ). A ++ l) (codes_used c (drop (suc n) s))
    ∙ ap (λ (l : List ℕ). A ++ c ∷ l) none ∙ ap (λ (l : List ℕ). l ++ c ∷ []) (sym (codes_before s n l))

-- no more codes than adds
pub codes_few : (s : List (Option ℕ)) (n : ℕ) → FreeFrom n s → length (codes s) ≤ n
codes_few s n l = let e = ap length (codes_before s n l) ∙ length_codes s n in omega (arith, used_upto_le s n)
