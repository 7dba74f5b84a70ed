-- The lines that are printed of an order that is certified.
use Rattle.std.specs.Prelude.{ℕ, zero, suc, List, [], ◌++◌, length, Some, None, codes, decimal, Option, slice_index}
use Rattle.std.specs.List.{slice_get}
use Rattle.sheet.specs.declared.operation.Method.{Method}
use Rattle.sheet.specs.declared.operation.Method.TheVariants.{Add, Take, FoundEmpty}
use Rattle.sheet.specs.declared.operation.Operation.{Operation}
use Rattle.calls.specs.declared.certificate.Certificate.{Certificate}

-- a step, its operation, its rank error and its instant
unfoldable pub line_of_step : ℕ → ℕ → ℕ → ℕ → List ℕ
line_of_step step operation rank at =
    codes "step " ++ (decimal step ++ (codes " op " ++ (decimal operation ++ (codes " rank " ++ (decimal rank ++ (codes " at " ++ (decimal at ++ codes "\n")))))))

-- an add and its lateness
unfoldable pub line_of_late : ℕ → ℕ → List ℕ
line_of_late number late = codes "late " ++ (decimal number ++ (codes " " ++ (decimal late ++ codes "\n")))

-- the line that grants a certificate: k, the sum of the rank errors, the largest, and the first step that has it
unfoldable pub line_of_certified : ℕ → Certificate → List ℕ
line_of_certified k c =
    codes "certified k " ++ (decimal k ++ (codes " total " ++ (decimal c.total ++ (codes " max " ++ (decimal c.largest ++ (codes " step " ++ (decimal c.first ++ codes "\n")))))))

-- f 0, f 1 and so on, n of them, one after another
abbrev pub up_to : ℕ → (ℕ → List ℕ) → List ℕ
up_to zero f = []
up_to (suc n) f = up_to n f ++ f n

-- the line of a step of the order
abbrev pub step_at : List ℕ → List ℕ → List ℕ → ℕ → List ℕ
step_at order ranks instants s = line_of_step s (slice_index order s) (slice_index ranks s) (slice_index instants s)

-- a line for each step
abbrev pub lines_of_steps : List ℕ → List ℕ → List ℕ → List ℕ
lines_of_steps order ranks instants = up_to (length order) (step_at order ranks instants)

module _ {I : Type 0} where
  -- only an add has a line
  abbrev pub late_of_method : ℕ → ℕ → Method I → List ℕ
  late_of_method n late (Add x) = line_of_late n late
  late_of_method n late (Take x) = []
  late_of_method n late FoundEmpty = []

  -- the same of an operation, if there is one
  abbrev pub late_of : ℕ → ℕ → Option (Operation I) → List ℕ
  late_of n late None = []
  late_of n late (Some o) = late_of_method n late o.method

  -- the line of operation n, by its lateness
  abbrev pub late_at : List (Operation I) → List ℕ → ℕ → List ℕ
  late_at os lates n = late_of n (slice_index lates n) (slice_get os n)

  -- a line for each add
  abbrev pub lines_of_lates : List (Operation I) → List ℕ → List ℕ
  lines_of_lates os lates = up_to (length os) (late_at os lates)
