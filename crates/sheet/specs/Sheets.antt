-- What a sheet holds.
use Rattle.std.specs.Prelude.{◌≡◌, ℕ, min, List, length, take}
use Rattle.giving.specs.Fronts.{over}
use Rattle.sheet.specs.declared.operation.Operation.{Operation}
use Rattle.sheet.specs.declared.sheet.Sheet.{Sheet}

module _ {I : Type 0} where
  -- the records that the caller lends
  abbrev pub memory : Sheet I → List (Operation I)
  memory s = s.records.now

  -- the operations entered, in the order of their numbers
  abbrev pub entered : Sheet I → List (Operation I)
  entered s = take s.count s.records.now

  -- how many operations the sheet takes
  abbrev pub room : Sheet I → ℕ
  room s = min (length s.records.now) 1024

  -- a sheet that is still over the same caller's records: the first of them are those entered, and the others are as before
  pub record SameLoan (before after : Sheet I) : Type 0 where
    pub memory : memory after ≡ over (entered after) (memory before)
    pub room : room after ≡ room before
    pub lender : after.records.ghost_name ≡ before.records.ghost_name
