-- Blocks of arrival positions, and the sums over them. Assumes nothing.
use Rattle.std.specs.Prelude.{◌≡◌, ℕ, ◌+◌, ◌-◌, ◌^◌, ◌<◌, ◌≤◌, Bool, cond, Option, is_some, List, take, count_by, nat_le, slice_index}
use Rattle.std.specs.Int.Count.{count_trailing_zeros}

-- the lowest one bit of n's k lowest bits, or 2 ^ k
abbrev pub lowest_bit : ℕ → ℕ → ℕ
lowest_bit k n = 2 ^ count_trailing_zeros k n

-- how long the block is that ends at position p: it has the positions p - block p + 1 to p
unfoldable pub block : ℕ → ℕ
block p = lowest_bit 16 p

-- position p is slot p - 1, and a slot is used if it has a code
abbrev pub used : Option ℕ → Bool
used slot = is_some slot

-- what a slot counts for
abbrev pub worth : Option ℕ → ℕ
worth slot = cond (used slot) 1 0

-- how many of the positions 1 to n are used
unfoldable pub used_upto : List (Option ℕ) → ℕ → ℕ
used_upto slots n = count_by used (take n slots)

-- the sum at each position p is how many positions of its block are used: with those before the block, it makes those up to p
abbrev pub BlockSums : List ℕ → List (Option ℕ) → Type 0
BlockSums sums slots = (p : ℕ) → 0 < p → p ≤ 1024 → slice_index sums p + used_upto slots (p - block p) ≡ used_upto slots p

-- what position q adds to a count of the positions 1 to n, if it counts for w
abbrev pub counted_from : ℕ → ℕ → ℕ → ℕ
counted_from q w n = cond (nat_le q n) w 0

-- each sum of a block that has position q lost `less` and gained `more`, and the other sums stayed
abbrev pub Changed : ℕ → ℕ → ℕ → List ℕ → List ℕ → Type 0
Changed q less more old new = (p : ℕ) → 0 < p → p ≤ 1024 → slice_index new p + (counted_from q less p + counted_from q more (p - block p)) ≡ slice_index old p + (counted_from q more p + counted_from q less (p - block p))
