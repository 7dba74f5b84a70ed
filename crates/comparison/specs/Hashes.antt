-- The hash by which long contents are compared: exclusive or with each byte, and then a multiplication, of which 64 bits are kept.
use Rattle.std.specs.Prelude.{ℕ, ◌*◌, ◌%◌, ◌^◌, List, ◌++◌, fold, bit_xor}
use Rattle.std.specs.Int.{to_be_bytes, w16, w64}
use Rattle.std.specs.List.{flat_map}
use Rattle.calls.specs.Rules.{Buffers}

-- the hash after one more byte
abbrev pub hashed_byte : ℕ → ℕ → ℕ
hashed_byte hash byte = bit_xor hash byte * 1099511628211 % 2 ^ 64

-- the hash of the bytes, after those that gave the hash before
unfoldable pub hashed : ℕ → List ℕ → ℕ
hashed before bytes = fold hashed_byte before bytes

-- the hash of the bytes alone
abbrev pub hash_of : List ℕ → ℕ
hash_of bytes = hashed 14695981039346656037 bytes

-- numbers of 16 bits one after another, the highest byte of each first
abbrev pub bytes_of_shorts : List ℕ → List ℕ
bytes_of_shorts numbers = flat_map (to_be_bytes w16) numbers

-- three buffers one after another: 2 bytes for each rank error, 8 for each instant, 2 for each lateness
abbrev pub bytes_of_buffers : Buffers → List ℕ
bytes_of_buffers b = bytes_of_shorts b.ranks ++ (flat_map (to_be_bytes w64) b.instants ++ bytes_of_shorts b.latenesses)
