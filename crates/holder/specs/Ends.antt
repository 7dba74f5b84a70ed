-- What the giving list of a row has to do with the row. Assumes nothing.
use Rattle.std.specs.Prelude.{◌≡◌, ℕ, ◌<◌, ◌≤◌, List, [], ◌∷◌, ◌++◌, length, slice_index}
use Rattle.std.specs.List.{insert}
use Rattle.giving.specs.Lists.{SeatRule, times, place, stands, without, Once}

-- the giving list has the codes of the row; a code at the row's end has its seat in it, one that leaves the row leaves it,
-- and the places of the one are those of the other, across
pub record EndLaws (given : List ℕ → List ℕ) (seat : SeatRule) (across : ℕ → ℕ → ℕ) : Type 0 where
  pub seated : (L : List ℕ) (c : ℕ) → seat L c ≤ length L
  pub as_long : (L : List ℕ) → length (given L) ≡ length L
  pub as_often : (c : ℕ) (L : List ℕ) → times c (given L) ≡ times c L
  pub as_held : (c : ℕ) (L : List ℕ) → stands c (given L) ≡ stands c L
  pub grown : (L : List ℕ) (c : ℕ) → given (L ++ c ∷ []) ≡ insert (given L) (seat (given L) c) c
  pub left : (c : ℕ) (L : List ℕ) → Once L → given (without c L) ≡ without c (given L)
  pub ranked : (c : ℕ) (L : List ℕ) → Once L → place c L < length L → place c (given L) ≡ across (length L) (place c L)
  pub placed : (L : List ℕ) (i : ℕ) → i < length L → (across (length L) i < length L) × (slice_index (given L) i ≡ slice_index L (across (length L) i))
