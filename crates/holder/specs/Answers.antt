-- What the calls of a holder answer, by its giving list L and its count of adds n. Assumes nothing.
use Rattle.std.specs.Prelude.{ℕ, ◌≤◌, cond, List, length, take, Ok, Err, Result, nat_le, nat_lt, slice_index}
use Rattle.giving.specs.Fronts.{over}
use Rattle.giving.specs.Lists.{place, stands, Once, Below}
use Rattle.holder.specs.declared.fault.HolderFault.{HolderFault}
use Rattle.holder.specs.declared.fault.HolderFault.TheVariants.{CodeTooLarge, AlreadyHeld, AddsUsedUp, NotHeld, NoSuchPlace}

-- what holds of the giving list and the count of adds of every holder
pub record SoundGiving (L : List ℕ) (n : ℕ) : Type 0 where
  pub once : Once L
  pub below : Below 1024 L
  pub held : length L ≤ n
  pub few : n ≤ 1024

-- refused where the code is too large, else where it is held, else where 1,024 codes were added
abbrev pub add_answer : List ℕ → ℕ → ℕ → Result (Unit {0}) HolderFault
add_answer L n c = cond (nat_le 1024 c) (Err CodeTooLarge) (cond (stands c L) (Err AlreadyHeld) (cond (nat_le 1024 n) (Err AddsUsedUp) (Ok tt)))

-- the place of the code, or refused where it is not held
abbrev pub rank_answer : List ℕ → ℕ → Result ℕ HolderFault
rank_answer L c = cond (stands c L) (Ok (place c L)) (Err NotHeld)

-- the code at the place, or refused where the giving list has none there
abbrev pub at_answer : List ℕ → ℕ → Result ℕ HolderFault
at_answer L p = cond (nat_lt p (length L)) (Ok (slice_index L p)) (Err NoSuchPlace)

-- the first codes of L over the front of a buffer, as many as it has entries
abbrev pub front_over : List ℕ → List ℕ → List ℕ
front_over L buffer = over (take (length buffer) L) buffer

-- refused where the code is not held
abbrev pub take_answer : List ℕ → ℕ → Result (Unit {0}) HolderFault
take_answer L c = cond (stands c L) (Ok tt) (Err NotHeld)
