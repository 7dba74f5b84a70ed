-- What every ledger keeps. Assumes nothing.
use Rattle.std.specs.Prelude.{◌≡◌, ℕ, ◌+◌, ◌-◌, ◌*◌, ◌^◌, ◌<◌, ◌≤◌, min, Bool, false, cond, not, ◌&&◌, nat_lt, List, map, length, take, slice_index, slice_index_or}
use Rattle.order.specs.declared.operation.Paired.{Paired}
use Rattle.order.specs.Steps.{no_operation}
use Rattle.calls.specs.Rules.{unplaced}
use Rattle.docket.specs.declared.entry.Entry.{Entry}
use Rattle.docket.specs.declared.step.Step.{Step}

-- the entry of an operation before any step
abbrev pub fresh : Paired → Entry
fresh p = record { paired = p; late = 0; placed = false }

-- what stands past the end of the table
abbrev pub blank : Entry
blank = fresh no_operation

-- the entry of the operation x
abbrev pub entry_of : List Entry → ℕ → Entry
entry_of es x = slice_index_or es x blank

-- the operations of steps, and their rank errors
abbrev pub numbers_in : List Step → List ℕ
numbers_in ss = map (λ s. s.operation) ss

abbrev pub ranks_in : List Step → List ℕ
ranks_in ss = map (λ s. s.rank) ss

-- table and steps have 1,024 entries each
abbrev pub ArrayLengths : List Entry → List Step → Type 0
ArrayLengths es ss = (length es ≡ 1024) × (length ss ≡ 1024)

-- no more steps than operations, and no more operations than entries
abbrev pub CountsFit : ℕ → ℕ → Type 0
CountsFit n m = (m ≤ n) × (n ≤ 1024)

-- the m placed steps are among the n operations
abbrev pub StepsAreOperations : ℕ → List ℕ → ℕ → Type 0
StepsAreOperations n ss m = (i : ℕ) → i < m → slice_index ss i < n

-- an operation is flagged when it is among the placed steps
abbrev pub Flagged : List Entry → ℕ → List ℕ → ℕ → Type 0
Flagged es n ss m = (x : ℕ) → x < n → (entry_of es x).placed ≡ not (unplaced (take m ss) x)

-- ---- the ends that are awaited
-- the end that stands for the operation x
abbrev pub end_at : List ℕ → ℕ → ℕ
end_at ts x = slice_index ts (1024 + x)

-- the end of an operation that is awaited, and else the last instant of all
abbrev pub end_if : Bool → Entry → ℕ
end_if awaited e = cond awaited e.paired.end (2 ^ 64 - 1)

-- at each place below 1,024 stands the lesser of the two at twice the place and after it: so the soonest of all stands at 1
abbrev pub Lesser : List ℕ → Type 0
Lesser ts = (p : ℕ) → 1 ≤ p → p < 1024 → slice_index ts p ≡ min (slice_index ts (2 * p)) (slice_index ts (2 * p + 1))

-- that of x, by its entry: of n operations those are awaited that are not placed
abbrev pub awaited_end : ℕ → ℕ → Entry → ℕ
awaited_end n x e = end_if (nat_lt x n && not e.placed) e

-- it stands for each number below 1,024
abbrev pub Awaits : List ℕ → ℕ → List Entry → Type 0
Awaits ts n es = (x : ℕ) → x < 1024 → end_at ts x ≡ awaited_end n x (entry_of es x)
