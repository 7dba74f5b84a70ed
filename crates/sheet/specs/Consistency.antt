-- What holds of the operations of every sheet.
use Rattle.std.specs.Prelude.{◌≡◌, ◌≤◌, List, [], ◌∷◌, ◌++◌}
use Rattle.sheet.specs.declared.operation.Method.{Method}
use Rattle.sheet.specs.declared.operation.Method.TheVariants.{Add, Take, FoundEmpty}
use Rattle.sheet.specs.declared.operation.Operation.{Operation}

module _ {I : Type 0} where
  -- both add, or both take, one item
  abbrev pub Same : Method I → Method I → Type 0
  Same (Add x) (Add y) = x ≡ y
  Same (Add x) (Take y) = ⊥
  Same (Add x) FoundEmpty = ⊥
  Same (Take x) (Add y) = ⊥
  Same (Take x) (Take y) = x ≡ y
  Same (Take x) FoundEmpty = ⊥
  Same FoundEmpty (Add y) = ⊥
  Same FoundEmpty (Take y) = ⊥
  Same FoundEmpty FoundEmpty = ⊥

  -- none of the operations does what the method does
  abbrev pub NewMethod : Method I → List (Operation I) → Type 0
  NewMethod m [] = Unit {0}
  NewMethod m (o ∷ os) = (Same o.method m → ⊥) × NewMethod m os

  -- after the operations before, each of ops ends no sooner than it starts, and none adds or takes an item that one before it did
  abbrev pub Consistent : List (Operation I) → List (Operation I) → Type 0
  Consistent before [] = Unit {0}
  Consistent before (op ∷ ops) = (op.start ≤ op.end) × NewMethod op.method before × Consistent (before ++ op ∷ []) ops
