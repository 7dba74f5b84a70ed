-- What entering an operation answers.
use Rattle.std.specs.Prelude.{ℕ, cond, List, length, Some, None, Ok, Err, Option, Result, nat_le, nat_lt}
use Rattle.sheet.specs.declared.operation.Method.{Method}
use Rattle.sheet.specs.declared.operation.Method.TheVariants.{Add, Take, FoundEmpty}
use Rattle.sheet.specs.declared.operation.Operation.{Operation}
use Rattle.sheet.specs.declared.fault.SheetFault.{SheetFault}
use Rattle.sheet.specs.declared.fault.SheetFault.TheVariants.{Full, EndBeforeStart, AddedAlready, TakenAlready}
use Rattle.sheet.specs.Alike.{first_alike_in}

module _ {I : Type 0} where
  -- the fault of a method at a place that does what an earlier operation did
  abbrev pub repeated_fault : Method I → ℕ → ℕ → SheetFault
  repeated_fault (Add x) place earlier = AddedAlready place earlier
  repeated_fault (Take x) place earlier = TakenAlready place earlier
  repeated_fault FoundEmpty place earlier = TakenAlready place earlier

  -- the place, or that fault where an earlier operation did the same
  abbrev pub unless_repeated : Method I → ℕ → Option ℕ → Result ℕ SheetFault
  unless_repeated m place None = Ok place
  unless_repeated m place (Some earlier) = Err (repeated_fault m place earlier)

  -- what entering op answers, where os are entered and the sheet takes room operations
  abbrev pub enter_answer : (I → ℕ) → ℕ → List (Operation I) → Operation I → Result ℕ SheetFault
  enter_answer number room os op =
      cond (nat_le room (length os)) (Err (Full (length os)))
      (cond (nat_lt op.end op.start) (Err (EndBeforeStart (length os)))
      (unless_repeated op.method (length os) (first_alike_in number op.method 0 os)))
