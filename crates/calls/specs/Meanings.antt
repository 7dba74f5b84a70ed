-- What an answer means, in the words of orders. Assumes nothing.
use Rattle.std.specs.Prelude.{◌≡◌, ℕ, ◌<◌, ◌≤◌, true, List, [], ◌∷◌, ◌++◌, length, take, drop, Ok, Err, Result, slice_index}
use Rattle.std.specs.List.{AllZip, sum}
use Rattle.giving.specs.Lists.{SeatRule, times}
use Rattle.order.specs.declared.operation.Paired.{Paired}
use Rattle.order.specs.Steps.{operation, giving_after, lateness, passings_over}
use Rattle.order.specs.Times.{precedes, Instants}
use Rattle.order.specs.Orders.{Acceptable, TrueOrder}
use Rattle.order.specs.Strict.{Stretch, ShortestStretch}
use Rattle.calls.specs.declared.fault.DocketFault.{DocketFault}
use Rattle.calls.specs.declared.fault.DocketFault.TheVariants.{NoSuchOperation, PlacedAlready, TooEarly, NotHeld, AboveBound, NothingToLift, StepsMissing, BufferTooShort}
use Rattle.calls.specs.declared.certificate.Certificate.{Certificate}
use Rattle.calls.specs.Faults.{docket_refusal}
use Rattle.calls.specs.Rules.{Buffers}

-- ---- the answer to placing x after the steps p

module _ (ops : List Paired) (p : List ℕ) (x : ℕ) where
  -- x is an operation that is not placed
  abbrev pub NotPlaced : Type 0
  NotPlaced = (x < length ops) × (times x p ≡ 0)

  -- b precedes x and is not placed
  abbrev pub Waits : ℕ → Type 0
  Waits b = (b < length ops) × (times b p ≡ 0) × (precedes ops b x ≡ true)

  -- x waits for no operation
  abbrev pub WaitsForNone : Type 0
  WaitsForNone = (b : ℕ) → Waits b → ⊥

-- r is the rank error of x after p: a shortest stretch has r items
abbrev pub Costs : SeatRule → List Paired → List ℕ → ℕ → ℕ → Type 0
Costs seat ops p x r = ShortestStretch (operation ops x).deed (giving_after seat ops p) r

module _ (seat : SeatRule) (ops : List Paired) (k : ℕ) (p : List ℕ) (x : ℕ) where
  -- the rule that x breaks, and no earlier one
  abbrev pub Breaks : DocketFault → Type 0
  Breaks (NoSuchOperation s) = length ops ≤ x
  Breaks (PlacedAlready s) = (x < length ops) × (0 < times x p)
  Breaks (TooEarly s b) = NotPlaced ops p x × Waits ops p x b × ((c : ℕ) → c < b → Waits ops p x c → ⊥)
  Breaks (NotHeld s) = NotPlaced ops p x × WaitsForNone ops p x × ((r : ℕ) → Stretch (operation ops x).deed (giving_after seat ops p) r → ⊥)
  Breaks (AboveBound s r) = NotPlaced ops p x × WaitsForNone ops p x × Costs seat ops p x r × (k < r)
  Breaks NothingToLift = ⊥
  Breaks (StepsMissing s a) = ⊥
  Breaks (BufferTooShort n) = ⊥

  -- a refusal tells the rule that is broken, and as its place how many steps are placed
  abbrev pub Refused : DocketFault → Type 0
  Refused e = ((docket_refusal e).place ≡ length p) × Breaks e

  -- the step is accepted with the rank error r
  abbrev pub Accepted : ℕ → Type 0
  Accepted r = Acceptable ops k p (giving_after seat ops p) x × Costs seat ops p x r

  -- what each answer means
  abbrev pub Placing : Result ℕ DocketFault → Type 0
  Placing (Ok r) = Accepted r
  Placing (Err e) = Refused e

-- each number of xs, in turn, may come next after p and those before it
abbrev pub InTurn : SeatRule → List Paired → ℕ → List ℕ → List ℕ → Type 0
InTurn seat ops k p [] = Unit {0}
InTurn seat ops k p (x ∷ xs) = Acceptable ops k p (giving_after seat ops p) x × InTurn seat ops k (p ++ (x ∷ [])) xs

-- ---- a certificate

-- a buffer keeps its length, and what stands past its first n entries
abbrev pub KeptPast : ℕ → List ℕ → List ℕ → Type 0
KeptPast n old new = (length new ≡ length old) × (drop n new ≡ drop n old)

-- m is the largest of the first n of xs, and i the first place where it stands; of none, both are 0
pub record Largest (n : ℕ) (xs : List ℕ) (m i : ℕ) : Type 0 where
  pub bound : (j : ℕ) → j < n → slice_index xs j ≤ m
  pub there : 0 < n → (i < n) × (slice_index xs i ≡ m)
  pub first : (j : ℕ) → j < i → slice_index xs j < m
  pub none : n ≡ 0 → (m ≡ 0) × (i ≡ 0)

-- the certificate c of the steps p, with the buffers b before it and w after it
pub record Granted (seat : SeatRule) (ops : List Paired) (k : ℕ) (p : List ℕ) (b : Buffers) (c : Certificate) (w : Buffers) : Type 0 where
  pub order : TrueOrder seat ops k p
  pub room : (length ops ≤ length b.ranks) × (length ops ≤ length b.instants) × (length ops ≤ length b.latenesses)
  pub errors_by_step : (u v : List ℕ) (x : ℕ) → p ≡ u ++ (x ∷ v) → Costs seat ops u x (slice_index w.ranks (length u))
  pub instants : Instants ops p (take (length ops) w.instants)
  pub least : (ts : List ℕ) → Instants ops p ts → AllZip ◌≤◌ (take (length ops) w.instants) ts
  pub latenesses : (a : ℕ) → a < length ops → slice_index w.latenesses a ≡ lateness seat ops a p
  pub rest : KeptPast (length ops) b.ranks w.ranks × KeptPast (length ops) b.instants w.instants × KeptPast (length ops) b.latenesses w.latenesses
  pub total : c.total ≡ passings_over seat ops p
  pub total_of_ranks : c.total ≡ sum (take (length ops) w.ranks)
  pub total_of_latenesses : c.total ≡ sum (take (length ops) w.latenesses)
  pub largest : Largest (length ops) w.ranks c.largest c.first
