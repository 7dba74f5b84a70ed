-- The cases that a file holds, one after another.
use Rattle.std.specs.Prelude.{ℕ, cond, List, [], ◌∷◌, length, take, drop, Some, None, Option, nat_lt}
use Rattle.std.specs.Int.{from_be_bytes, w32}
use Rattle.comparison.specs.Pieces.{all_pieces}

-- a case: its letter and its body
abbrev pub Case : Type 0
Case = ℕ × List ℕ

-- a case whose body is so many bytes at the front, and what is behind it; none where there are fewer
abbrev pub case_with_body : ℕ → ℕ → List ℕ → Option (Case × List ℕ)
case_with_body letter count bytes = cond (nat_lt (length bytes) count) None (Some ((letter, take count bytes), drop count bytes))

-- the case at the front, and the bytes behind it: a letter, 4 bytes for the length of its body, the highest first, and the body; none where no whole case stands there
abbrev pub front_case : List ℕ → Option (Case × List ℕ)
front_case [] = None
front_case (letter ∷ bytes) = cond (nat_lt (length bytes) 4) None (case_with_body letter (from_be_bytes w32 (take 4 bytes)) (drop 4 bytes))

-- the cases that bytes hold, up to where no whole case stands
abbrev pub cases_in : List ℕ → List Case
cases_in bytes = all_pieces front_case bytes
