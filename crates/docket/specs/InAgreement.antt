-- A docket's holder and ledger, in agreement with one another. Assumes nothing.
use Rattle.std.specs.Prelude.{◌≡◌, ℕ, ◌<◌, List, map, take}
use Rattle.giving.specs.Lists.{SeatRule}
use Rattle.order.specs.declared.operation.Paired.{Paired}
use Rattle.order.specs.Steps.{giving_after, rank_errors, lateness, adds_in}
use Rattle.docket.specs.declared.entry.Entry.{Entry}
use Rattle.docket.specs.declared.ledger.Ledger.{Ledger}
use Rattle.docket.specs.Kept.{entry_of, numbers_in, ranks_in}

-- the operation of an entry
abbrev pub paired_in : Entry → Paired
paired_in e = e.paired

-- the operations of a ledger, and its placed steps
abbrev pub ops_of : Ledger → List Paired
ops_of l = take l.count (map paired_in l.entries)

abbrev pub steps_of : Ledger → List ℕ
steps_of l = take l.placed (numbers_in l.steps)

-- the rank errors of its placed steps
abbrev pub errors_of : Ledger → List ℕ
errors_of l = take l.placed (ranks_in l.steps)

-- the holder's giving list L and its count of adds n are what the placed steps give, and so are the latenesses and the rank errors
pub record InAgreement (seat : SeatRule) (L : List ℕ) (n : ℕ) (l : Ledger) : Type 0 where
  pub gives : L ≡ giving_after seat (ops_of l) (steps_of l)
  pub added : n ≡ adds_in (ops_of l) (steps_of l)
  pub lates : (x : ℕ) → x < l.count → (entry_of l.entries x).late ≡ lateness seat (ops_of l) x (steps_of l)
  pub errors : errors_of l ≡ rank_errors seat (ops_of l) (steps_of l)

-- the latenesses of the operations, as a certificate writes them
abbrev pub lates_of : Ledger → List ℕ
lates_of l = map (λ e. e.late) (take l.count l.entries)
