-- What a text holds.
use Rattle.std.specs.Prelude.{ℕ, Bool, true, ◌&&◌, cond, Some, None, Option, List, [], ◌++◌, length, take, drop, decimal, nat_le}
use Rattle.text.specs.declared.piece.Piece.{Piece}
use Rattle.text.specs.declared.piece.Piece.TheVariants.{Word, Number}
use Rattle.text.specs.declared.text.Text.{Text}

-- the bytes that were said, as far as they fit; the memory behind them; whether all that was said fits; and whose memory it is
pub record Content : Type 0 where
  pub bytes : List ℕ
  pub free : List ℕ
  pub whole : Bool
  pub lender : ℕ

abbrev pub content : Text → Content
content t = record { bytes = take t.written t.memory.now; free = drop t.written t.memory.now; whole = t.whole; lender = t.memory.ghost_name }

-- nothing is said yet in that memory of that lender
abbrev pub unsaid : List ℕ → ℕ → Content
unsaid memory lender = record { bytes = []; free = memory; whole = true; lender = lender }

-- with words said behind the others, as far as there is memory
unfoldable pub with_words : List ℕ → Content → Content
with_words ws c = record { bytes = c.bytes ++ take (length c.free) ws; free = drop (length ws) c.free; whole = c.whole && nat_le (length ws) (length c.free); lender = c.lender }

-- all that was said, or none where something of it did not fit
abbrev pub all_said : Content → Option (List ℕ)
all_said c = cond c.whole (Some c.bytes) None

-- the words of a piece
abbrev pub piece_words : Piece → List ℕ
piece_words (Word word) = word.now
piece_words (Number number) = decimal number
