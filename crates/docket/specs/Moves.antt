-- What the parts of a call do to the holder and the table, as they stand. Assumes nothing.
use Rattle.std.specs.Prelude.{ℕ, ◌+◌, ◌-◌, ◌^◌, min, Bool, not, ◌&&◌, List, [], ◌∷◌, nat_lt, slice_set}
use Rattle.giving.specs.Lists.{SeatRule}
use Rattle.holder.specs.Meanings.{Meaning, after_add, after_take}
use Rattle.order.specs.declared.operation.Deed.{Deed}
use Rattle.order.specs.declared.operation.Deed.TheVariants.{Add, Take, TakeOfNone, FoundEmpty}
use Rattle.docket.specs.declared.entry.Entry.{Entry}
use Rattle.docket.specs.Kept.{entry_of}

-- what a holder stands for once a step is made on it
abbrev pub stepped : SeatRule → ℕ → Deed → Meaning → Meaning
stepped seat x Add s = after_add seat s x
stepped seat x (Take a) s = after_take s a
stepped seat x TakeOfNone s = s
stepped seat x FoundEmpty s = s

-- and once steps are made on it, one after another
unfoldable pub replayed : SeatRule → List Entry → Meaning → List ℕ → Meaning
replayed seat es s [] = s
replayed seat es s (x ∷ p) = replayed seat es (stepped seat x (entry_of es x).paired.deed s) p

-- the operation b is not placed
abbrev pub not_placed : List Entry → ℕ → Bool
not_placed es b = not (entry_of es b).placed

-- it is not placed, and ended before the instant t
abbrev pub waits : List Entry → ℕ → ℕ → Bool
waits es t b = not_placed es b && nat_lt (entry_of es b).paired.end t

-- a lateness one higher, or one lower; latenesses have 16 bits
abbrev pub one_more : ℕ → ℕ
one_more n = min (n + 1) (2 ^ 16 - 1)

abbrev pub one_less : ℕ → ℕ
one_less n = n - 1

-- an entry with its lateness changed, and with its flag set to b
abbrev pub with_late : (ℕ → ℕ) → Entry → Entry
with_late f e = record { paired = e.paired; late = f e.late; placed = e.placed }

abbrev pub with_flag : Bool → Entry → Entry
with_flag b e = record { paired = e.paired; late = e.late; placed = b }

-- the table with the entry of the code c changed, and with those of the codes in turn
abbrev pub changed_at : (Entry → Entry) → List Entry → ℕ → List Entry
changed_at f es c = slice_set es c (f (entry_of es c))

unfoldable pub changed_all : (Entry → Entry) → List Entry → List ℕ → List Entry
changed_all f es [] = es
changed_all f es (c ∷ cs) = changed_all f (changed_at f es c) cs
