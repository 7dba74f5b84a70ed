-- The codes that slots have, and where each code stands. Past the end of the slots, and of the positions, there is none. Assumes nothing.
use Rattle.std.specs.Prelude.{◌≡◌, ℕ, ◌<◌, ◌≤◌, Option, Some, None, List, slice_index_or}
use Rattle.std.specs.List.{filter_map}
use Rattle.std.specs.Option.{option_map}
use Rattle.counting.specs.declared.slot.Slot.{Slot}

-- a slot's number, if there is a slot
abbrev pub number_of : Option Slot → Option ℕ
number_of slot = option_map (λ slot. slot.number) slot

-- the codes of the used slots, in the order of arrival
unfoldable pub codes : List (Option ℕ) → List ℕ
codes slots = filter_map (λ slot. slot) slots

-- no slot from n on is used
abbrev pub FreeFrom : ℕ → List (Option ℕ) → Type 0
FreeFrom n slots = (k : ℕ) → n ≤ k → slice_index_or slots k None ≡ None

-- the slot in which a code stands, by the positions
abbrev pub slot_of : List (Option Slot) → ℕ → Option ℕ
slot_of positions c = number_of (slice_index_or positions c None)

-- the code of each used slot is below 1,024 and has that slot's position
abbrev pub HasPosition : List (Option ℕ) → List (Option Slot) → Type 0
HasPosition slots positions = (k c : ℕ) → slice_index_or slots k None ≡ Some c → (c < 1024) × (slot_of positions c ≡ Some k)

-- each code that has a position stands in the slot of that position
abbrev pub StandsAtPosition : List (Option ℕ) → List (Option Slot) → Type 0
StandsAtPosition slots positions = (c k : ℕ) → slot_of positions c ≡ Some k → slice_index_or slots k None ≡ Some c
