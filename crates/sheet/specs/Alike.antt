-- Operations that do the same.
use Rattle.std.specs.Prelude.{ℕ, Bool, false, List, Option, ◌==◌}
use Rattle.std.specs.List.{position_from}
use Rattle.sheet.specs.declared.operation.Method.{Method}
use Rattle.sheet.specs.declared.operation.Method.TheVariants.{Add, Take, FoundEmpty}
use Rattle.sheet.specs.declared.operation.Operation.{Operation}

module _ {I : Type 0} where
  -- both add, or both take, the same item
  abbrev pub alike : (I → ℕ) → Method I → Method I → Bool
  alike number (Add x) (Add y) = number x == number y
  alike number (Add x) (Take y) = false
  alike number (Add x) FoundEmpty = false
  alike number (Take x) (Add y) = false
  alike number (Take x) (Take y) = number x == number y
  alike number (Take x) FoundEmpty = false
  alike number FoundEmpty (Add y) = false
  alike number FoundEmpty (Take y) = false
  alike number FoundEmpty FoundEmpty = false

  -- the number of the first of the operations that does what the method does; the first of them has the number k
  abbrev pub first_alike_in : (I → ℕ) → Method I → ℕ → List (Operation I) → Option ℕ
  first_alike_in number m k os = position_from (λ o. alike number o.method m) k os
