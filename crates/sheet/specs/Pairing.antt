-- Which add a take belongs to.
use Rattle.std.specs.Prelude.{◌≡◌, ℕ, ◌<◌, List, Some, None, Option}
use Rattle.std.specs.List.{slice_get}
use Rattle.sheet.specs.declared.operation.Method.{Method}
use Rattle.sheet.specs.declared.operation.Method.TheVariants.{Add, Take, FoundEmpty}
use Rattle.sheet.specs.declared.operation.Operation.{Operation}
use Rattle.sheet.specs.Alike.{first_alike_in}

module _ {I : Type 0} (number : I → ℕ) where
  -- the number of the add of the item
  abbrev pub add_matching : I → List (Operation I) → Option ℕ
  add_matching x os = first_alike_in number (Add x) 0 os

  -- the number of the add that a method belongs to, if it takes
  abbrev pub pair_of_method : List (Operation I) → Method I → Option ℕ
  pair_of_method os (Add x) = None
  pair_of_method os (Take x) = add_matching x os
  pair_of_method os FoundEmpty = None

  -- the number of the add that an operation belongs to, if it is a take
  abbrev pub pair_of : List (Operation I) → Option (Operation I) → Option ℕ
  pair_of os None = None
  pair_of os (Some o) = pair_of_method os o.method

  -- the method adds the item numbered n
  abbrev pub AddsItem : ℕ → Method I → Type 0
  AddsItem n (Add x) = number x ≡ n
  AddsItem n (Take x) = ⊥
  AddsItem n FoundEmpty = ⊥

  -- operation k is an add of the item numbered n
  abbrev pub IsAdd : ℕ → List (Operation I) → ℕ → Type 0
  IsAdd n os k = elim (slice_get os k) [ None ↦ ⊥ | Some o ↦ AddsItem n o.method ]

  -- r is the lowest number of an add of the item numbered n, or none where there is no such add
  abbrev pub LowestAdd : ℕ → List (Operation I) → Option ℕ → Type 0
  LowestAdd n os None = (k : ℕ) → IsAdd n os k → ⊥
  LowestAdd n os (Some k) = IsAdd n os k × ((j : ℕ) → j < k → IsAdd n os j → ⊥)

  -- r is the pairing of an operation of that method
  abbrev pub PairsMethod : List (Operation I) → Method I → Option ℕ → Type 0
  PairsMethod os (Add x) r = r ≡ None
  PairsMethod os (Take x) r = LowestAdd (number x) os r
  PairsMethod os FoundEmpty r = r ≡ None

  -- r is the pairing of an operation: of a take the lowest-numbered add of its item, of any other none
  abbrev pub Pairs : List (Operation I) → Option (Operation I) → Option ℕ → Type 0
  Pairs os None r = r ≡ None
  Pairs os (Some o) r = PairsMethod os o.method r
