-- What the strict object answers, and what must be removed for it to give a relaxed answer. Assumes nothing.
use Rattle.std.specs.Prelude.{◌≡◌, ℕ, ◌≤◌, List, [], ◌∷◌, ◌++◌, length}
use Rattle.giving.specs.Lists.{SeatRule}
use Rattle.order.specs.declared.operation.Deed.{Deed}
use Rattle.order.specs.declared.operation.Deed.TheVariants.{Add, Take, TakeOfNone, FoundEmpty}
use Rattle.order.specs.declared.operation.Paired.{Paired}
use Rattle.order.specs.Steps.{operation, after_step}
use Rattle.order.specs.Orders.{Timed}

-- the strict object, holding M, gives the step's answer: it accepts every add, gives its first item only, and finds nothing only where it holds nothing
abbrev pub Gives : Deed → List ℕ → Type 0
Gives Add M = Unit {0}
Gives (Take a) [] = ⊥
Gives (Take a) (x ∷ M) = x ≡ a
Gives TakeOfNone M = ⊥
Gives FoundEmpty [] = Unit {0}
Gives FoundEmpty (x ∷ M) = ⊥

-- a stretch: r items next to each other in L without which the strict object gives the step's answer
pub record Stretch (d : Deed) (L : List ℕ) (r : ℕ) : Type 0 where
  pub before : List ℕ
  pub removed : List ℕ
  pub behind : List ℕ
  pub parts : L ≡ before ++ (removed ++ behind)
  pub count : length removed ≡ r
  pub gives : Gives d (before ++ behind)

-- such a stretch, and every other has at least as many items
pub record ShortestStretch (d : Deed) (L : List ℕ) (r : ℕ) : Type 0 where
  pub stretch : Stretch d L r
  pub fewest : (s : ℕ) → Stretch d L s → r ≤ s

-- the strict object gives every answer of the steps p, from L on
abbrev pub GivenStrictly : SeatRule → List Paired → List ℕ → List ℕ → Type 0
GivenStrictly seat ops L [] = Unit {0}
GivenStrictly seat ops L (x ∷ p) = Gives (operation ops x).deed L × GivenStrictly seat ops (after_step seat x (operation ops x).deed L) p

-- an order of the strict object: it names each operation once, admits instants, and the object gives every answer
pub record StrictOrder (seat : SeatRule) (ops : List Paired) (p : List ℕ) : Type 0 where
  pub timed : Timed ops p
  pub given : GivenStrictly seat ops [] p
