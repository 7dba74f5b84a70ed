-- The header: 4 bits each of version, kind, item type and spare, then 16 bits each of count, k and spare.
use Rattle.std.specs.Prelude.{ℕ, ◌+◌, ◌*◌, ◌/◌, ◌%◌, cond, not, List, ◌++◌, length, Ok, Err, Result, ◌==◌, nat_lt}
use Rattle.record.specs.Bytes.{bytes_of_number, number_in}
use Rattle.frame.specs.declared.fault.FrameFault.{FrameFault}
use Rattle.frame.specs.declared.fault.FrameFault.TheVariants.{Short, Version, ItemType, SpareBit, Count, Length}
use Rattle.frame.specs.declared.header.Header.{Header}
use Rattle.frame.specs.declared.kind.Kind.{Kind}
use Rattle.frame.specs.Kinds.{kind_named}

-- what follows the kind: item type, spare bits, count, k and length
abbrev pub header_from : ℕ → ℕ → ℕ → ℕ → ℕ → ℕ → Result Kind FrameFault → Result Header FrameFault
header_from code bytes word count k spare (Err fault) = Err fault
header_from code bytes word count k spare (Ok kind) =
    cond (not (word / 16 % 16 == code)) (Err ItemType)
    (cond (nat_lt 0 (word % 16)) (Err SpareBit)
    (cond (nat_lt 0 spare) (Err SpareBit)
    (cond (nat_lt 1024 count) (Err Count) (cond (not (bytes == 8 + 26 * count)) (Err Length) (Ok (record { kind = kind; count = count; k = k }))))))

-- the header of four words of 16 bits, of a trace of that many bytes
abbrev pub header_of : ℕ → ℕ → ℕ → ℕ → ℕ → ℕ → Result Header FrameFault
header_of code bytes word count k spare =
    cond (not (word / 4096 == 1)) (Err Version) (header_from code bytes word count k spare (kind_named (word / 256 % 16)))

-- what the header of a trace says to a reader of the item type with the number `code`
abbrev pub frame_of : ℕ → List ℕ → Result Header FrameFault
frame_of code bs =
    cond (nat_lt (length bs) 8) (Err Short)
    (header_of code (length bs) (number_in 0 2 bs) (number_in 2 2 bs) (number_in 4 2 bs) (number_in 6 2 bs))

-- the 8 bytes of a header
abbrev pub bytes_of_header : ℕ → ℕ → ℕ → ℕ → List ℕ
bytes_of_header code kind count k = bytes_of_number 2 (4096 + kind * 256 + code * 16) ++ bytes_of_number 2 count ++ bytes_of_number 2 k ++ bytes_of_number 2 0
