-- The worked examples, about the definitions of orders and calls. Assumes nothing.
use Rattle.std.specs.Prelude.{◌≡◌, ℕ, List, [], ◌∷◌, length, replicate, Some, None, Ok}
use Rattle.giving.specs.Lists.{SeatRule}
use Rattle.holder.specs.Kinds.{queue_seat, stack_seat}
use Rattle.order.specs.declared.operation.Paired.{Paired}
use Rattle.order.specs.Orders.{TrueOrder}
use Rattle.calls.specs.declared.fault.DocketFault.{DocketFault}
use Rattle.calls.specs.declared.fault.DocketFault.TheVariants.{TooEarly, NotHeld, AboveBound}
use Rattle.calls.specs.declared.certificate.Certificate.{Certificate}
use Rattle.calls.specs.Faults.{code_of}
use Rattle.calls.specs.Rules.{Buffers}
use Rattle.calls.specs.Calls.{run, certify, to_run, to_certify, answers_for}
use Rattle.examples.specs.Histories.{last_taken_first, two_adds, empty_after_add, taken_at_once, last_ends_first}

-- the whole order is placed, and certified with these rank errors, instants and latenesses over zeros
abbrev pub Certified : SeatRule → List Paired → ℕ → List ℕ → Certificate → Buffers → Type 0
Certified seat ops k order c w =
    let zeros : List ℕ = replicate (length ops) 0 in
    answers_for seat ops k [] (run order ∷ certify (record { ranks = zeros; instants = zeros; latenesses = zeros }) ∷ [])
    ≡ to_run (length ops) (code_of None) ∷ to_certify (Ok c) w ∷ []

-- a run of the order places n steps, and the next is refused so
abbrev pub StopsAfter : SeatRule → List Paired → ℕ → List ℕ → ℕ → DocketFault → Type 0
StopsAfter seat ops k order n e = answers_for seat ops k [] (run order ∷ []) ≡ to_run n (code_of (Some e)) ∷ []

-- 0, 1, .., 5
abbrev pub as_numbered : List ℕ
as_numbered = 0 ∷ 1 ∷ 2 ∷ 3 ∷ 4 ∷ 5 ∷ []

-- the examples, each of them a fact
pub record WorkedExamples : Type 0 where
  -- on a queue, the take of the last item passes over the two before it
  pub queue_passes_two : Certified queue_seat last_taken_first 2 as_numbered
      (record { total = 2; largest = 2; first = 3 })
      (record { ranks = 0 ∷ 0 ∷ 0 ∷ 2 ∷ 0 ∷ 0 ∷ []; instants = 0 ∷ 5 ∷ 20 ∷ 40 ∷ 45 ∷ 60 ∷ []; latenesses = 1 ∷ 1 ∷ 0 ∷ 0 ∷ 0 ∷ 0 ∷ [] })
  pub queue_bound_one : StopsAfter queue_seat last_taken_first 1 as_numbered 3 (AboveBound 3 2)
  -- on a stack it costs nothing, and the take of the first item passes over the second
  pub stack_passes_one : Certified stack_seat last_taken_first 1 as_numbered
      (record { total = 1; largest = 1; first = 4 })
      (record { ranks = 0 ∷ 0 ∷ 0 ∷ 0 ∷ 1 ∷ 0 ∷ []; instants = 0 ∷ 5 ∷ 20 ∷ 40 ∷ 45 ∷ 60 ∷ []; latenesses = 0 ∷ 1 ∷ 0 ∷ 0 ∷ 0 ∷ 0 ∷ [] })
  pub stack_bound_zero : StopsAfter stack_seat last_taken_first 0 as_numbered 4 (AboveBound 4 1)
  -- takes that overlap may be exchanged: the one that began earlier then has the other's instant
  pub takes_exchanged : Certified queue_seat last_taken_first 1 (0 ∷ 1 ∷ 2 ∷ 4 ∷ 3 ∷ 5 ∷ [])
      (record { total = 1; largest = 1; first = 4 })
      (record { ranks = 0 ∷ 0 ∷ 0 ∷ 0 ∷ 1 ∷ 0 ∷ []; instants = 0 ∷ 5 ∷ 20 ∷ 45 ∷ 45 ∷ 60 ∷ []; latenesses = 0 ∷ 1 ∷ 0 ∷ 0 ∷ 0 ∷ 0 ∷ [] })
  -- so may adds that overlap
  pub adds_exchanged : Certified queue_seat last_taken_first 2 (1 ∷ 0 ∷ 2 ∷ 3 ∷ 4 ∷ 5 ∷ [])
      (record { total = 3; largest = 2; first = 3 })
      (record { ranks = 0 ∷ 0 ∷ 0 ∷ 2 ∷ 1 ∷ 0 ∷ []; instants = 5 ∷ 5 ∷ 20 ∷ 40 ∷ 45 ∷ 60 ∷ []; latenesses = 1 ∷ 2 ∷ 0 ∷ 0 ∷ 0 ∷ 0 ∷ [] })
  -- what had ended before must come first; the lowest such operation is named
  pub add_too_early : (seat : SeatRule) (k : ℕ) → StopsAfter seat last_taken_first k (2 ∷ []) 0 (TooEarly 0 0)
  -- an end and a start at the same time overlap
  pub touching_adds : (seat : SeatRule) (k : ℕ) → TrueOrder seat (two_adds 10) k (1 ∷ 0 ∷ [])
  pub parted_adds : (seat : SeatRule) (k : ℕ) → StopsAfter seat (two_adds 11) k (1 ∷ 0 ∷ []) 0 (TooEarly 0 0)
  -- finding nothing costs as many as are held
  pub queue_not_empty : StopsAfter queue_seat empty_after_add 0 (0 ∷ 1 ∷ []) 1 (AboveBound 1 1)
  pub stack_not_empty : StopsAfter stack_seat empty_after_add 0 (0 ∷ 1 ∷ []) 1 (AboveBound 1 1)
  pub empty_passes_one : Certified queue_seat empty_after_add 1 (0 ∷ 1 ∷ [])
      (record { total = 1; largest = 1; first = 1 }) (record { ranks = 0 ∷ 1 ∷ []; instants = 0 ∷ 5 ∷ []; latenesses = 1 ∷ 0 ∷ [] })
  -- an item can't be taken before it is added
  pub not_yet_added : (seat : SeatRule) (k : ℕ) → StopsAfter seat taken_at_once k (1 ∷ []) 0 (NotHeld 0)
  -- an operation far behind may have to come first, though no neighbours are out of order
  pub far_behind : (seat : SeatRule) (k : ℕ) → StopsAfter seat last_ends_first k (0 ∷ 1 ∷ 2 ∷ []) 0 (TooEarly 0 2)
