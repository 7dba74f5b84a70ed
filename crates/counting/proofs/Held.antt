-- What the position of a code says of a queue by counting. Assumes nothing.
use Rattle.std.proofs.Common.{◌≡◌, ℕ, ◌<◌, ◌≤◌, Bool, true, false, Option, Some, None, length, get_or, sym, ap, arith, ⊎_elim, if◌then◌else◌, nat_lt}
use Rattle.std.proofs.lemmas.Bool.{cases_lt, lt-ltb, le-ltb}
use Rattle.std.specs.Option.{is_some}
use Rattle.giving.specs.Lists.{place}
use Rattle.giving.proofs.Places.{place_absent}
use Rattle.counting.specs.declared.queue.CountingQueue.{CountingQueue}
use Rattle.counting.specs.declared.slot.Slot.{Slot}
use Rattle.counting.specs.Blocks.{used_upto}
use Rattle.counting.specs.Slots.{codes, number_of}
use Rattle.counting.specs.Codes.{codes_absent, code_place, code_at}

-- code c stands in slot i, at the place that counts the used slots before it
pub record HeldAt (q : CountingQueue) (c i : ℕ) : Type 0 where
  pub slot : get_or q.arrivals.slots i None ≡ Some c
  pub here : place c (codes q.arrivals.slots) ≡ used_upto q.arrivals.slots i
  pub held : used_upto q.arrivals.slots i < length (codes q.arrivals.slots)

pub held_at : (q : CountingQueue) (c : ℕ) (slot : Slot) → get_or q.positions c None ≡ Some slot → HeldAt q c slot.number
held_at q c slot e =
    let s = q.arrivals.slots in
    let b = q.back c slot.number (ap number_of e) in
    let a = code_at s slot.number c b in
    record { slot = b; here = code_place s q.positions c slot.number q.placed b; held = a.0 }

-- the same in numbers alone, as a check can use it by itself
pub place_held : (q : CountingQueue) (c : ℕ) (slot : Slot) → get_or q.positions c None ≡ Some slot → (place c (codes q.arrivals.slots) ≡ used_upto q.arrivals.slots slot.number) × (used_upto q.arrivals.slots slot.number < length (codes q.arrivals.slots))
place_held q c slot e = let h = held_at q c slot e in (h.here, h.held)

-- a code that has a position is held, and one that has none is not
pub held : (q : CountingQueue) (c : ℕ) (slot : Option Slot) (some : Bool) → slot ≡ get_or q.positions c None → some ≡ is_some slot → some ≡ true → place c (codes q.arrivals.slots) < length (codes q.arrivals.slots)
held q c None some e i t = absurd cc
held q c (Some slot) some e i t = let h = held_at q c slot (sym e) in omega arith

pub no_position : (q : CountingQueue) (c : ℕ) (slot : Option Slot) (some : Bool) → slot ≡ get_or q.positions c None → some ≡ is_some slot → some ≡ false → get_or q.positions c None ≡ None
no_position q c None some e i t = sym e
no_position q c (Some slot) some e i t = absurd cc

pub not_held : (q : CountingQueue) (c : ℕ) → get_or q.positions c None ≡ None → length (codes q.arrivals.slots) ≤ place c (codes q.arrivals.slots)
not_held q c z = place_absent c (codes q.arrivals.slots) (codes_absent q.arrivals.slots q.positions c q.placed (ap number_of z))

-- ---- the slot of a number
pub slot_number : (n : ℕ) (slot : Option Slot) (there : Slot) → number_of slot ≡ (if nat_lt n 1024 then Some n else None) → slot ≡ Some there → there.number ≡ n
slot_number n slot there e z =
    let y = ap number_of z in
    ⊎_elim
    (λ (h : n < 1024). let t = lt-ltb n 1024 h in let f = rw t at e in cc)
    (λ (h : 1024 ≤ n). let t = le-ltb n 1024 h in let f = rw t at e in absurd cc)
    (cases_lt n 1024)
