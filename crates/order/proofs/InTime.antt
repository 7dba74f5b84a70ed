-- Instants by place, and orders that keep to the order of time. Assumes nothing.
use Rattle.std.proofs.Common.{◌≡◌, ℕ, zero, suc, ◌<◌, ◌≤◌, max, List, [], ◌∷◌, length, get_or, refl, ap, arith}
use Rattle.std.proofs.lemmas.Bool.{ltb-false, le-ltb}
use Rattle.giving.specs.Lists.{SeatRule}
use Rattle.order.specs.declared.operation.Paired.{Paired}
use Rattle.order.specs.Steps.{operation}
use Rattle.order.specs.Times.{InstantsFrom, Instants, earliest_from, earliest}
use Rattle.order.specs.Orders.{Placed}
use Rattle.order.specs.ByPlace.{AtEachPlace, InTimeOrder}
use Rattle.order.proofs.Whole.{placed_instants}

module _ (ops : List Paired) where
  length_is : (m : ℕ) (p ts : List ℕ) → InstantsFrom ops m p ts → length ts ≡ length p
  length_is m [] [] h = refl
  length_is m [] (t ∷ ts) h = absurd h
  length_is m (x ∷ p) [] h = absurd h
  length_is m (x ∷ p) (t ∷ ts) h = ap suc (length_is t p ts h.3)

  above : (m : ℕ) (p ts : List ℕ) → InstantsFrom ops m p ts → (i : ℕ) → i < length p → m ≤ get_or ts i 0
  above m [] ts h i l = omega arith
  above m (x ∷ p) [] h i l = absurd h
  above m (x ∷ p) (t ∷ ts) h zero l = h.0
  above m (x ∷ p) (t ∷ ts) h (suc i) l = omega (arith, above t p ts h.3 i (omega arith))

  inside : (m : ℕ) (p ts : List ℕ) → InstantsFrom ops m p ts → (i : ℕ) → i < length p → ((operation ops (get_or p i 0)).start ≤ get_or ts i 0) × (get_or ts i 0 ≤ (operation ops (get_or p i 0)).end)
  inside m [] ts h i l = absurd (omega arith)
  inside m (x ∷ p) [] h i l = absurd h
  inside m (x ∷ p) (t ∷ ts) h zero l = (h.1, h.2)
  inside m (x ∷ p) (t ∷ ts) h (suc i) l = inside t p ts h.3 i (omega arith)

  rising : (m : ℕ) (p ts : List ℕ) → InstantsFrom ops m p ts → (i j : ℕ) → i ≤ j → j < length p → get_or ts i 0 ≤ get_or ts j 0
  rising m [] ts h i j o l = omega arith
  rising m (x ∷ p) [] h i j o l = absurd h
  rising m (x ∷ p) (t ∷ ts) h zero zero o l = omega arith
  rising m (x ∷ p) (t ∷ ts) h zero (suc j) o l = above t p ts h.3 j (omega arith)
  rising m (x ∷ p) (t ∷ ts) h (suc i) zero o l = omega arith
  rising m (x ∷ p) (t ∷ ts) h (suc i) (suc j) o l = rising t p ts h.3 i j (omega arith) (omega arith)

  from_places : (m : ℕ) (p ts : List ℕ) → ((i : ℕ) → i < length p → m ≤ get_or ts i 0) → AtEachPlace ops p ts → InstantsFrom ops m p ts
  from_places m [] [] a h = tt
  from_places m [] (t ∷ ts) a h = omega arith
  from_places m (x ∷ p) [] a h = omega arith
  from_places m (x ∷ p) (t ∷ ts) a h =
      let first : 0 < length (x ∷ p) = omega arith in (
        a 0 first,
        (h.inside 0 first).0,
        (h.inside 0 first).1,
        from_places t p ts (λ i l. h.rising 0 (suc i) (omega arith) (omega arith)) (record {
          one_each = omega arith;
          inside = λ i l. h.inside (suc i) (omega arith);
          rising = λ i j o l. h.rising (suc i) (suc j) (omega arith) (omega arith);
        }),
      )

  admits : (m : ℕ) (p : List ℕ) → ((i : ℕ) → i < length p → m ≤ (operation ops (get_or p i 0)).end)
      → ((i j : ℕ) → i ≤ j → j < length p → (operation ops (get_or p i 0)).start ≤ (operation ops (get_or p j 0)).end) → InstantsFrom ops m p (earliest_from ops m p)
  admits m [] a h = tt
  admits m (x ∷ p) a h = (
    omega arith,
    omega arith,
    omega (arith, a 0 (omega arith), h 0 0 (omega arith) (omega arith)),
    admits (max m (operation ops x).start) p (λ i l. omega (arith, a (suc i) (omega arith), h 0 (suc i) (omega arith) (omega arith)))
        (λ i j o l. h (suc i) (suc j) (omega arith) (omega arith)),
  )

  pub places : (p ts : List ℕ) → Instants ops p ts → AtEachPlace ops p ts
  places p ts h = record { one_each = length_is 0 p ts h; inside = inside 0 p ts h; rising = rising 0 p ts h }

  pub of_places : (p ts : List ℕ) → AtEachPlace ops p ts → Instants ops p ts
  of_places p ts h = from_places 0 p ts (λ i l. omega arith) h

  pub in_time_order : (p ts : List ℕ) → Instants ops p ts → InTimeOrder ops p
  in_time_order p ts h i j o l =
      le-ltb (operation ops (get_or p j 0)).end (operation ops (get_or p i 0)).start (omega (arith, inside 0 p ts h i (omega arith), inside 0 p ts h j l, rising 0 p ts h i j o l))

  pub admitted : (p : List ℕ) → InTimeOrder ops p → Instants ops p (earliest ops p)
  admitted p h = admits 0 p (λ i l. omega arith) (λ i j o l. ltb-false (operation ops (get_or p j 0)).end (operation ops (get_or p i 0)).start (h i j o l))

-- the largest starts so far are admissible where any instants are
pub earliest_admits : (ops : List Paired) (p ts : List ℕ) → Instants ops p ts → Instants ops p (earliest ops p)
earliest_admits ops p ts h = admitted ops p (in_time_order ops p ts h)

pub placed_in_time_order : (seat : SeatRule) (ops : List Paired) (k : ℕ) (p : List ℕ) → Placed seat ops k p → InTimeOrder ops p
placed_in_time_order seat ops k p h = in_time_order ops p (earliest ops p) (placed_instants seat ops k p [] [] 0 (λ b l z. omega arith) h)
