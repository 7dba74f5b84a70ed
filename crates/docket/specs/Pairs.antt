-- The operations of a sheet as they are paired. Assumes nothing.
use Rattle.std.specs.Prelude.{ℕ, List, map, Some, None, Option}
use Rattle.sheet.specs.declared.operation.Method.{Method}
use Rattle.sheet.specs.declared.operation.Method.TheVariants as method
use Rattle.sheet.specs.declared.operation.Operation.{Operation}
use Rattle.sheet.specs.declared.sheet.Sheet.{Sheet}
use Rattle.sheet.specs.Sheets.{entered}
use Rattle.sheet.specs.Pairing.{pair_of_method}
use Rattle.order.specs.declared.operation.Deed.{Deed}
use Rattle.order.specs.declared.operation.Deed.TheVariants.{Add, Take, TakeOfNone, FoundEmpty}
use Rattle.order.specs.declared.operation.Paired.{Paired}

module _ {I : Type 0} where
  -- what a method does, where the add of its item is known, or known to be missing
  abbrev pub deed_by : Method I → Option ℕ → Deed
  deed_by (method.Add x) a = Add
  deed_by (method.Take x) (Some a) = Take a
  deed_by (method.Take x) None = TakeOfNone
  deed_by method.FoundEmpty a = FoundEmpty

  module _ (number : I → ℕ) where
    -- what becomes of an operation among the operations os
    abbrev pub paired_of : List (Operation I) → Operation I → Paired
    paired_of os o = record { deed = deed_by o.method (pair_of_method number os o.method); thread = o.thread; start = o.start; end = o.end }

    -- the operations of a sheet, each paired
    abbrev pub paired_all : List (Operation I) → List Paired
    paired_all os = map (paired_of os) os

    -- those that are entered on a sheet
    abbrev pub sheet_ops : Sheet I → List Paired
    sheet_ops s = paired_all (entered s)
