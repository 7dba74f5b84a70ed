-- The laws of orders, for every seat rule, all operations and every bound. Assumes nothing.
use Rattle.std.specs.Prelude.{◌≡◌, ℕ, ◌+◌, ◌*◌, ◌≤◌, true, List, [], ◌∷◌, ◌++◌, length}
use Rattle.std.specs.List.{AllZip, sum}
use Rattle.order.specs.declared.operation.Deed.{Deed}
use Rattle.order.specs.declared.operation.Paired.{Paired}
use Rattle.giving.specs.Lists.{SeatRule, times}
use Rattle.order.specs.Steps.{operation, has_rank, rank_error, after_step, items_added, passes_over, giving_after, rank_errors, lateness, adds_in, passings_over}
use Rattle.order.specs.Times.{Instants, earliest}
use Rattle.order.specs.Orders.{Placed, TrueOrder}
use Rattle.order.specs.Strict.{Stretch, ShortestStretch, StrictOrder}

-- the rank errors of a placed order add up to how often its steps passed over an item
abbrev pub RankErrorsAddUp : Type 0
RankErrorsAddUp = (seat : SeatRule) (ops : List Paired) (k : ℕ) (p : List ℕ) → Placed seat ops k p → sum (rank_errors seat ops p) ≡ passings_over seat ops p

-- a step has a rank error exactly where some stretch will do, and then it is the length of the shortest
pub record CostOf (d : Deed) (L : List ℕ) : Type 0 where
  pub shortest : has_rank d L ≡ true → ShortestStretch d L (rank_error d L)
  pub has_one : (r : ℕ) → Stretch d L r → has_rank d L ≡ true
  pub only : (r : ℕ) → ShortestStretch d L r → r ≡ rank_error d L

-- that holds of every step, whatever list it finds
abbrev pub RankErrorIsShortestStretch : Type 0
RankErrorIsShortestStretch = (d : Deed) (L : List ℕ) → CostOf d L

-- the true orders are the placed orders of full length
abbrev pub TrueOrdersArePlacedWhole : Type 0
TrueOrdersArePlacedWhole = (seat : SeatRule) (ops : List Paired) (k : ℕ) (p : List ℕ)
    → (TrueOrder seat ops k p → Placed seat ops k p × (length p ≡ length ops))
    × (Placed seat ops k p → length p ≡ length ops → TrueOrder seat ops k p)

-- where an order admits instants, the largest starts so far are admissible, and the least
abbrev pub EarliestInstantsAreLeast : Type 0
EarliestInstantsAreLeast = (ops : List Paired) (p ts : List ℕ) → Instants ops p ts → Instants ops p (earliest ops p) × AllZip ◌≤◌ (earliest ops p) ts

-- the true orders with bound 0 are the orders of the strict object
abbrev pub StrictIsBoundZero : Type 0
StrictIsBoundZero = (seat : SeatRule) (ops : List Paired) (p : List ℕ)
    → (TrueOrder seat ops 0 p → StrictOrder seat ops p) × (StrictOrder seat ops p → TrueOrder seat ops 0 p)

-- what one more step x changes, after the steps p
pub record OneMore (seat : SeatRule) (ops : List Paired) (p : List ℕ) (x : ℕ) : Type 0 where
  pub giving : giving_after seat ops (p ++ (x ∷ [])) ≡ after_step seat x (operation ops x).deed (giving_after seat ops p)
  pub errors_by_step : rank_errors seat ops (p ++ (x ∷ [])) ≡ rank_errors seat ops p ++ (rank_error (operation ops x).deed (giving_after seat ops p) ∷ [])
  pub latenesses : (a : ℕ) → lateness seat ops a (p ++ (x ∷ [])) ≡ lateness seat ops a p + passes_over a (rank_error (operation ops x).deed (giving_after seat ops p)) (giving_after seat ops p)
  pub adds : adds_in ops (p ++ (x ∷ [])) ≡ adds_in ops p + items_added (operation ops x).deed

-- that holds after all steps, of every one more
abbrev pub OneMoreStep : Type 0
OneMoreStep = (seat : SeatRule) (ops : List Paired) (p : List ℕ) (x : ℕ) → OneMore seat ops p x

-- only the item of an add can be late
abbrev pub OnlyAddsAreLate : Type 0
OnlyAddsAreLate = (seat : SeatRule) (ops : List Paired) (a : ℕ) → items_added (operation ops a).deed ≡ 0 → (p : List ℕ) → lateness seat ops a p ≡ 0

-- how large the numbers of a placed order get
pub record Sizes (seat : SeatRule) (ops : List Paired) (k : ℕ) (p : List ℕ) : Type 0 where
  -- no operation twice, so no more steps than operations
  pub once : (a : ℕ) → times a p ≤ 1
  pub steps : length p ≤ length ops
  -- only items of the steps are held, no more than they add
  pub held : (a : ℕ) → times a (giving_after seat ops p) ≤ times a p
  pub few : length (giving_after seat ops p) ≤ adds_in ops p
  pub adds : adds_in ops p ≤ length p
  -- each step adds 1 at most to a lateness, and k at most to the total
  pub late : (a : ℕ) → lateness seat ops a p ≤ length p
  pub total : sum (rank_errors seat ops p) ≤ length p * k

-- they get no larger in any placed order
abbrev pub PlacedOrdersStaySmall : Type 0
PlacedOrdersStaySmall = (seat : SeatRule) (ops : List Paired) (k : ℕ) (p : List ℕ) → Placed seat ops k p → Sizes seat ops k p
