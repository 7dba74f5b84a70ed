-- How many positions are used, and the sums over blocks, after a change of one slot. Assumes nothing.
use Rattle.std.specs.Prelude.{◌≡◌, ℕ, zero, suc, ◌+◌, ◌-◌, ◌*◌, ◌/◌, ◌<◌, ◌≤◌, Option, Some, None, IsSome, List, length, take, replicate, count_by, slice_index, slice_index_or, slice_set, refl}
use Rattle.std.proofs.Common.{ap, ◌∙◌, ⊎_elim, arith}
use Rattle.std.proofs.Math.Seq.{take-set-lt}
use Rattle.std.proofs.lemmas.List.{take-set-le, length-take, length-take-le, get_or-take, take-take, get_or-replicate}
use Rattle.std.proofs.lemmas.List.Sums.{count_by-le-length, sum_by-set, sum_by-take-le, sum_by_more}
use Rattle.std.proofs.lemmas.Bool.{cases_lt, le-leb, lt-leb}
use Rattle.counting.specs.LowestBit.{block_half, block_past}
use Rattle.counting.specs.Blocks.{block, used, worth, used_upto, counted_from, BlockSums, Changed}

-- of no position, of n, of more positions, and of one position more
pub used_upto_none : (s : List (Option ℕ)) → used_upto s 0 ≡ 0
unfolding used_upto
used_upto_none s = refl

pub used_upto_le : (s : List (Option ℕ)) (n : ℕ) → used_upto s n ≤ n
unfolding used_upto
used_upto_le s n = let l = length-take n s in omega (arith, count_by-le-length used (take n s))

used_upto_mono : (s : List (Option ℕ)) (m n : ℕ) → m ≤ n → used_upto s m ≤ used_upto s n
unfolding used_upto
used_upto_mono s m n h = let t = ap (count_by used) (take-take m n s h) in omega (arith, sum_by-take-le worth (take n s) m)

used_upto_more : (s : List (Option ℕ)) (i : ℕ) → i < length s → used_upto s (i + 1) ≡ used_upto s i + worth (slice_index_or s i None)
unfolding used_upto
used_upto_more s i h = sum_by_more worth s i None h

-- a position counts from itself on, and not before
pub counted_from_on : (q w n : ℕ) → q ≤ n → counted_from q w n ≡ w
counted_from_on q w n h = let e = le-leb q n h in rw e

pub counted_from_off : (q w n : ℕ) → n < q → counted_from q w n ≡ 0
counted_from_off q w n h = let e = lt-leb q n h in rw e

-- a slot counts for 1 at most
pub worth_le : (x : Option ℕ) → worth x ≤ 1
worth_le None = omega arith
worth_le (Some c) = omega arith

-- ---- after a change of slot i: nothing changes before it, and its worth changes past it
same_below : (s : List (Option ℕ)) (i : ℕ) (v : Option ℕ) (n : ℕ) → n ≤ i → used_upto (slice_set s i v) n ≡ used_upto s n
unfolding used_upto
same_below s i v n h = ap (count_by used) (take-set-le n s i v h)

moved_above : (s : List (Option ℕ)) (i : ℕ) (v : Option ℕ) (n : ℕ) → n ≤ length s → i < n → used_upto (slice_set s i v) n + worth (slice_index_or s i None) ≡ used_upto s n + worth v
unfolding used_upto
moved_above s i v n w h =
    let long = length-take-le n s w in
    let read = ap worth (get_or-take n s i None h) in
    let t = ap (count_by used) (take-set-lt n s i v h) in
    omega (arith, sum_by-set worth (take n s) i v None (omega arith))

used_upto_set : (s : List (Option ℕ)) (i : ℕ) (v : Option ℕ) (n : ℕ) → n ≤ length s → used_upto (slice_set s i v) n + counted_from (i + 1) (worth (slice_index_or s i None)) n ≡ used_upto s n + counted_from (i + 1) (worth v) n
used_upto_set s i v n w =
    ⊎_elim
    (λ (h : i < n). omega (arith, moved_above s i v n w h, counted_from_on (i + 1) (worth v) n (omega arith), counted_from_on (i + 1) (worth (slice_index_or s i None)) n (omega arith)))
    (λ (h : n ≤ i). omega (arith, same_below s i v n h, counted_from_off (i + 1) (worth v) n (omega arith), counted_from_off (i + 1) (worth (slice_index_or s i None)) n (omega arith)))
    (cases_lt i n)

-- ---- the sums
pub sum_le : (sums : List ℕ) (s : List (Option ℕ)) → BlockSums sums s → (p : ℕ) → 0 < p → p ≤ 1024 → slice_index sums p ≤ 1024
sum_le sums s b p some w = omega (arith, used_upto_le s p, b p some w)

-- a block that has a used slot counts it
pub sum_enough : (sums : List ℕ) (s : List (Option ℕ)) (i : ℕ) → length s ≡ 1024 → BlockSums sums s → (p : ℕ) → 0 < p → p ≤ 1024
    → counted_from (i + 1) (worth (slice_index_or s i None)) p ≤ slice_index sums p + counted_from (i + 1) (worth (slice_index_or s i None)) (p - block p)
sum_enough sums s i long b p p0 p1 =
    let free : (n : ℕ) → counted_from (i + 1) (worth None) n ≡ 0 = λ n. ⊎_elim (λ (h : n < i + 1). counted_from_off (i + 1) 0 n h) (λ (h : i + 1 ≤ n). counted_from_on (i + 1) 0 n h) (cases_lt n (i + 1)) in
    omega (arith, used_upto_set s i None p (omega arith), used_upto_set s i None (p - block p) (omega arith), free p, free (p - block p), used_upto_mono (slice_set s i None) (p - block p) p (omega arith), b p p0 p1)

-- the changed sums are those of the changed slots
pub sums_set : (sums new : List ℕ) (s : List (Option ℕ)) (i : ℕ) (v : Option ℕ) → length s ≡ 1024 → BlockSums sums s → Changed (i + 1) (worth (slice_index_or s i None)) (worth v) sums new → BlockSums new (slice_set s i v)
sums_set sums new s i v long b ch p p0 p1 = omega (arith, used_upto_set s i v p (omega arith), used_upto_set s i v (p - block p) (omega arith), b p p0 p1, ch p p0 p1)

-- nothing is used, and every sum is 0
pub used_upto_free : (m n : ℕ) → used_upto (replicate m None) n ≡ 0
unfolding used_upto
used_upto_free m zero = refl
used_upto_free zero (suc n) = refl
used_upto_free (suc m) (suc n) = used_upto_free m n

-- so the sums of new slots are all 0
pub sums_free : BlockSums (replicate 1025 0) (replicate 1024 None)
sums_free p s w =
    let d : slice_index_or {A = ℕ} (replicate 1025 0) p 0 ≡ 0 = get_or-replicate 1025 p 0 0 (omega arith) in
    omega (arith, used_upto_free 1024 p, used_upto_free 1024 (p - block p))

-- ---- the search for a used slot
-- half a block on from `at`: the sum there is what is used in between
pub halved : (sums : List ℕ) (s : List (Option ℕ)) (at w : ℕ) → 1 < w → w ≤ block at → block w ≡ w → at + w ≤ 1024 → BlockSums sums s
    → (w ≡ 2 * (w / 2)) × (block (w / 2) ≡ w / 2) × (block (at + w / 2) ≡ w / 2) × (slice_index sums (at + w / 2) + used_upto s at ≡ used_upto s (at + w / 2))
halved sums s at w one le own in' b =
    let h = block_half w one (omega arith) own in
    let l : block (at + w / 2) ≡ w / 2 = block_past at (w / 2) (omega arith) (omega arith) ∙ h.1 in
    let back : at + w / 2 - block (at + w / 2) ≡ at = omega arith in
    let u = ap (used_upto s) back in
    (h.0, h.1, l, omega (arith, b (at + w / 2) (omega arith) (omega arith)))

-- a slot that adds to the count is used, and adds one
counted : (x : Option ℕ) → 0 < worth x → IsSome x
counted None h = absurd (omega arith)
counted (Some c) h = refl

-- where the count goes up, the slot is used
pub used_here : (s : List (Option ℕ)) (i : ℕ) → i < length s → used_upto s i < used_upto s (i + 1) → IsSome (slice_index_or s i None)
used_here s i h l = counted (slice_index_or s i None) (omega (arith, used_upto_more s i h))

-- and it goes up by 1 at most
pub used_upto_one : (s : List (Option ℕ)) (i : ℕ) → i < length s → used_upto s (i + 1) ≤ used_upto s i + 1
used_upto_one s i h = omega (arith, used_upto_more s i h, worth_le (slice_index_or s i None))
