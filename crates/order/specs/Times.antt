-- When operations took place: precedence, and instants for the steps of an order. Assumes nothing.
use Rattle.std.specs.Prelude.{ℕ, ◌≤◌, max, Bool, List, [], ◌∷◌, nat_lt}
use Rattle.order.specs.declared.operation.Paired.{Paired}
use Rattle.order.specs.Steps.{operation}

-- whether the operation a precedes b: it had ended before b began
abbrev pub precedes : List Paired → ℕ → ℕ → Bool
precedes ops a b = nat_lt (operation ops a).end (operation ops b).start

-- admissible instants: one for each step, from its start to its end, none less than the one before, nor less than m
abbrev pub InstantsFrom : List Paired → ℕ → List ℕ → List ℕ → Type 0
InstantsFrom ops m [] [] = Unit {0}
InstantsFrom ops m [] (t ∷ ts) = ⊥
InstantsFrom ops m (x ∷ p) [] = ⊥
InstantsFrom ops m (x ∷ p) (t ∷ ts) = (m ≤ t) × ((operation ops x).start ≤ t) × (t ≤ (operation ops x).end) × InstantsFrom ops t p ts

-- the same of an order, from 0 on
abbrev pub Instants : List Paired → List ℕ → List ℕ → Type 0
Instants ops p ts = InstantsFrom ops 0 p ts

-- for each step the largest start among m and the steps so far
abbrev pub earliest_from : List Paired → ℕ → List ℕ → List ℕ
earliest_from ops m [] = []
earliest_from ops m (x ∷ p) = max m (operation ops x).start ∷ earliest_from ops (max m (operation ops x).start) p

-- the same of an order: its earliest instants, if it admits any
abbrev pub earliest : List Paired → List ℕ → List ℕ
earliest ops p = earliest_from ops 0 p
