-- The histories of the examples. Each operation has its own number as its thread. Assumes nothing.
use Rattle.std.specs.Prelude.{ℕ, List, [], ◌∷◌}
use Rattle.order.specs.declared.operation.Deed.{Deed}
use Rattle.order.specs.declared.operation.Deed.TheVariants.{Add, Take, FoundEmpty}
use Rattle.order.specs.declared.operation.Paired.{Paired}

-- the operation with the number n, from start to end
abbrev pub numbered : ℕ → Deed → ℕ → ℕ → Paired
numbered n deed start end = record { deed = deed; thread = n; start = start; end = end }

-- three items are added, and the last is taken first
abbrev pub last_taken_first : List Paired
last_taken_first =
    numbered 0 Add 0 10
    ∷ numbered 1 Add 5 15
    ∷ numbered 2 Add 20 30
    ∷ numbered 3 (Take 2) 40 50
    ∷ numbered 4 (Take 0) 45 55
    ∷ numbered 5 (Take 1) 60 70
    ∷ []

-- two adds, the second from `start` on
abbrev pub two_adds : ℕ → List Paired
two_adds start = numbered 0 Add 0 10 ∷ numbered 1 Add start 12 ∷ []

-- an item is added, and after that nothing is found
abbrev pub empty_after_add : List Paired
empty_after_add = numbered 0 Add 0 1 ∷ numbered 1 FoundEmpty 5 6 ∷ []

-- an item is added and taken at the same time
abbrev pub taken_at_once : List Paired
taken_at_once = numbered 0 Add 0 10 ∷ numbered 1 (Take 0) 0 10 ∷ []

-- the third add had ended before the first began, and the second goes on all the time
abbrev pub last_ends_first : List Paired
last_ends_first = numbered 0 Add 20 30 ∷ numbered 1 Add 0 40 ∷ numbered 2 Add 0 5 ∷ []
