-- The definitions of orders and instants, said of each place of an order. Assumes nothing.
use Rattle.std.specs.Prelude.{◌≡◌, ℕ, ◌<◌, ◌≤◌, false, List, ◌∷◌, ◌++◌, length, slice_index}
use Rattle.giving.specs.Lists.{SeatRule}
use Rattle.order.specs.declared.operation.Paired.{Paired}
use Rattle.order.specs.Steps.{operation, giving_after}
use Rattle.order.specs.Times.{precedes, Instants}
use Rattle.order.specs.Orders.{Acceptable, Placed}

-- each step was acceptable after the steps before it
abbrev pub StepByStep : SeatRule → List Paired → ℕ → List ℕ → Type 0
StepByStep seat ops k p = (u : List ℕ) (x : ℕ) (v : List ℕ) → p ≡ u ++ x ∷ v → Acceptable ops k u (giving_after seat ops u) x

-- an order is placed exactly when that holds of it
abbrev pub PlacedStepByStep : Type 0
PlacedStepByStep = (seat : SeatRule) (ops : List Paired) (k : ℕ) (p : List ℕ)
    → (Placed seat ops k p → StepByStep seat ops k p) × (StepByStep seat ops k p → Placed seat ops k p)

-- admissible instants
pub record AtEachPlace (ops : List Paired) (p ts : List ℕ) : Type 0 where
  pub one_each : length ts ≡ length p
  pub inside : (i : ℕ) → i < length p → ((operation ops (slice_index p i)).start ≤ slice_index ts i) × (slice_index ts i ≤ (operation ops (slice_index p i)).end)
  pub rising : (i j : ℕ) → i ≤ j → j < length p → slice_index ts i ≤ slice_index ts j

-- instants are admissible exactly when they are so place by place
abbrev pub InstantsByPlace : Type 0
InstantsByPlace = (ops : List Paired) (p ts : List ℕ) → (Instants ops p ts → AtEachPlace ops p ts) × (AtEachPlace ops p ts → Instants ops p ts)

-- no step stands before one that precedes it, nor precedes itself
abbrev pub InTimeOrder : List Paired → List ℕ → Type 0
InTimeOrder ops p = (i j : ℕ) → i ≤ j → j < length p → precedes ops (slice_index p j) (slice_index p i) ≡ false

-- an order admits instants exactly when it keeps to that
abbrev pub AdmitsExactlyInTimeOrder : Type 0
AdmitsExactlyInTimeOrder = (ops : List Paired) (p : List ℕ) → (((ts : List ℕ) × Instants ops p ts) → InTimeOrder ops p) × (InTimeOrder ops p → (ts : List ℕ) × Instants ops p ts)

-- the placed order never sets a step before one that precedes it in time
abbrev pub PlacedInTimeOrder : Type 0
PlacedInTimeOrder = (seat : SeatRule) (ops : List Paired) (k : ℕ) (p : List ℕ) → Placed seat ops k p → InTimeOrder ops p
