-- The steps of an order: the giving list before and after each, its rank error, and what it passes over. Assumes nothing.
use Rattle.std.specs.Prelude.{ℕ, zero, suc, ◌+◌, Bool, true, false, cond, List, [], ◌∷◌, length, take, ◌==◌, slice_index_or}
use Rattle.std.specs.List.{insert}
use Rattle.giving.specs.Lists.{SeatRule, times, place, stands, without}
use Rattle.order.specs.declared.operation.Deed.{Deed}
use Rattle.order.specs.declared.operation.Deed.TheVariants.{Add, Take, TakeOfNone, FoundEmpty}
use Rattle.order.specs.declared.operation.Paired.{Paired}

-- what stands past the last operation: no answer depends on it
abbrev pub no_operation : Paired
no_operation = record { deed = Add; thread = 0; start = 0; end = 0 }

-- the operation with the number x
abbrev pub operation : List Paired → ℕ → Paired
operation ops x = slice_index_or ops x no_operation

-- ---- one step, at the giving list L

-- a take has a rank error where the item's code is held; any other step has one
abbrev pub has_rank : Deed → List ℕ → Bool
has_rank Add L = true
has_rank (Take a) L = stands a L
has_rank TakeOfNone L = false
has_rank FoundEmpty L = true

-- the rank error: the place of the item that is taken, and all that is held where nothing was found
abbrev pub rank_error : Deed → List ℕ → ℕ
rank_error Add L = 0
rank_error (Take a) L = place a L
rank_error TakeOfNone L = 0
rank_error FoundEmpty L = length L

-- the giving list after the step x: an add goes in at its seat, a taken item leaves
abbrev pub after_step : SeatRule → ℕ → Deed → List ℕ → List ℕ
after_step seat x Add L = insert L (seat L x) x
after_step seat x (Take a) L = without a L
after_step seat x TakeOfNone L = L
after_step seat x FoundEmpty L = L

-- how many items the step adds
abbrev pub items_added : Deed → ℕ
items_added Add = 1
items_added (Take a) = 0
items_added TakeOfNone = 0
items_added FoundEmpty = 0

-- a step with rank error r passes over the first r items: 1 if a is among them, else 0
abbrev pub passes_over : ℕ → ℕ → List ℕ → ℕ
passes_over a r L = cond (times a (take r L) == 0) 0 1

-- ---- sums

-- f 0 + .. + f (n - 1)
abbrev pub sum_below : ℕ → (ℕ → ℕ) → ℕ
sum_below zero f = 0
sum_below (suc n) f = f n + sum_below n f

-- ---- the steps p of an order, from the giving list L on

module _ (seat : SeatRule) (ops : List Paired) where
  -- the giving list after the steps
  abbrev pub giving_from : List ℕ → List ℕ → List ℕ
  giving_from L [] = L
  giving_from L (x ∷ p) = giving_from (after_step seat x (operation ops x).deed L) p

  -- the rank error of each step
  abbrev pub rank_errors_from : List ℕ → List ℕ → List ℕ
  rank_errors_from L [] = []
  rank_errors_from L (x ∷ p) = rank_error (operation ops x).deed L ∷ rank_errors_from (after_step seat x (operation ops x).deed L) p

  -- how many of the steps passed over the item of the add a
  abbrev pub lateness_from : ℕ → List ℕ → List ℕ → ℕ
  lateness_from a L [] = 0
  lateness_from a L (x ∷ p) = passes_over a (rank_error (operation ops x).deed L) L + lateness_from a (after_step seat x (operation ops x).deed L) p

  -- the same of an order, which begins with nothing held
  abbrev pub giving_after : List ℕ → List ℕ
  giving_after p = giving_from [] p

  abbrev pub rank_errors : List ℕ → List ℕ
  rank_errors p = rank_errors_from [] p

  abbrev pub lateness : ℕ → List ℕ → ℕ
  lateness a p = lateness_from a [] p

  -- the latenesses of all operations together
  abbrev pub passings_over : List ℕ → ℕ
  passings_over p = sum_below (length ops) (λ a. lateness a p)

-- how many of the steps add an item
abbrev pub adds_in : List Paired → List ℕ → ℕ
adds_in ops [] = 0
adds_in ops (x ∷ p) = items_added (operation ops x).deed + adds_in ops p
