-- Where the parts of a trace lie: 8 bytes of header, 24 for each record, then 2 for each number of the order.
use Rattle.std.specs.Prelude.{ℕ, ◌+◌, ◌-◌, ◌*◌, ◌/◌, List, length, take, drop}
use Rattle.std.specs.Simd.{first_chunks}

-- how many records the bytes hold
abbrev pub record_count : List ℕ → ℕ
record_count bs = (length bs - 8) / 26

-- the bytes of the record numbered i
abbrev pub record_at : ℕ → List ℕ → List ℕ
record_at i bs = take 24 (drop (8 + 24 * i) bs)

-- the bytes of each record in turn
abbrev pub records_in : List ℕ → List (List ℕ)
records_in bs = first_chunks 24 (record_count bs) (drop 8 bs)
