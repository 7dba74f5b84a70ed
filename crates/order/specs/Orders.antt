-- Which steps may come next, and which orders are true. Assumes nothing.
use Rattle.std.specs.Prelude.{◌≡◌, ℕ, ◌<◌, ◌≤◌, true, false, List, [], ◌∷◌, length}
use Rattle.std.specs.List.{AllByRecursion}
use Rattle.giving.specs.Lists.{SeatRule, times}
use Rattle.order.specs.declared.operation.Paired.{Paired}
use Rattle.order.specs.Steps.{operation, has_rank, rank_error, after_step}
use Rattle.order.specs.Times.{precedes, Instants}

-- the step x may come next, after the steps `done`, which left the giving list L
pub record Acceptable (ops : List Paired) (k : ℕ) (done L : List ℕ) (x : ℕ) : Type 0 where
  pub known : x < length ops
  pub fresh : times x done ≡ 0
  -- what precedes it is done
  pub in_time : (b : ℕ) → b < length ops → times b done ≡ 0 → precedes ops b x ≡ false
  pub ranked : has_rank (operation ops x).deed L ≡ true
  pub small : rank_error (operation ops x).deed L ≤ k

module _ (seat : SeatRule) (ops : List Paired) (k : ℕ) where
  -- each step of p was acceptable when it was placed, after `done` (the latest first), which left L
  abbrev pub PlacedFrom : List ℕ → List ℕ → List ℕ → Type 0
  PlacedFrom done L [] = Unit {0}
  PlacedFrom done L (x ∷ p) = Acceptable ops k done L x × PlacedFrom (x ∷ done) (after_step seat x (operation ops x).deed L) p

  -- each step of an order was acceptable when it was placed
  abbrev pub Placed : List ℕ → Type 0
  Placed p = PlacedFrom [] [] p

  -- each step, from L on, has a rank error of at most k
  abbrev pub WithinBound : List ℕ → List ℕ → Type 0
  WithinBound L [] = Unit {0}
  WithinBound L (x ∷ p) =
      (has_rank (operation ops x).deed L ≡ true) × (rank_error (operation ops x).deed L ≤ k) × WithinBound (after_step seat x (operation ops x).deed L) p

-- an order that names each operation once and admits instants
pub record Timed (ops : List Paired) (p : List ℕ) : Type 0 where
  pub known : AllByRecursion (λ x. x < length ops) p
  pub once : (x : ℕ) → x < length ops → times x p ≡ 1
  pub instants : (ts : List ℕ) × Instants ops p ts

-- a true order also has a rank error of at most k at each step
pub record TrueOrder (seat : SeatRule) (ops : List Paired) (k : ℕ) (p : List ℕ) : Type 0 where
  pub timed : Timed ops p
  pub within_bound : WithinBound seat ops k [] p
