-- Numbers as bytes, the highest first. What bytes say is `number_from_digits 256`.
use Rattle.std.specs.Prelude.{ℕ, ◌<◌, List, take, drop, slice_index}
use Rattle.std.specs.Int.{bytes_high_first}
use Rattle.std.specs.Int.Digits.{number_from_digits}

-- the number n in w bytes: its lowest w bytes, the highest of them first
unfoldable pub bytes_of_number : ℕ → ℕ → List ℕ
bytes_of_number w n = bytes_high_first w n

-- the number that `width` bytes say from byte `at` on, as far as there are bytes
abbrev pub number_in : ℕ → ℕ → List ℕ → ℕ
number_in at width bytes = number_from_digits 256 (take width (drop at bytes))

-- every element is a byte
abbrev pub Bytes : List ℕ → Type 0
Bytes xs = (k : ℕ) → slice_index xs k < 256
