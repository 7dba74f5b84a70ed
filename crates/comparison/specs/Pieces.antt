-- Pieces of bytes that stand one after another, as calls and cases do.
use Rattle.std.specs.Prelude.{ℕ, zero, suc, List, [], ◌∷◌, length, Some, None, Option}

module _ {C : Type 0} where
  -- a piece and the pieces behind it
  abbrev pub and_behind : (List ℕ → List C) → Option (C × List ℕ) → List C
  and_behind rest None = []
  and_behind rest (Some p) = p.0 ∷ rest p.1

  -- at most n pieces, where front gives the piece at the front of bytes and the bytes behind it
  abbrev pub first_pieces : (List ℕ → Option (C × List ℕ)) → ℕ → List ℕ → List C
  first_pieces front zero bytes = []
  first_pieces front (suc n) bytes = and_behind (first_pieces front n) (front bytes)

  -- all the pieces up to bytes at whose front no whole piece stands: each has a byte at least
  unfoldable pub all_pieces : (List ℕ → Option (C × List ℕ)) → List ℕ → List C
  all_pieces front bytes = first_pieces front (length bytes) bytes
