-- The two ends of a row, and what holds of the list that is given from one. Assumes nothing.
use Rattle.std.proofs.Common.{ℕ, ◌-◌, [], ◌∷◌, reverse, refl, sym, arith, List}
use Rattle.std.proofs.lemmas.List.{length-reverse, get_or-reverse, reverse-append, length-take-le}
use Rattle.std.proofs.lemmas.List.Edits.{insert_end}
use Rattle.giving.specs.Lists.{SeatRule}
use Rattle.giving.proofs.Counts.{times_reverse, once_fewer, below_fewer}
use Rattle.giving.proofs.Places.{stands_same, place_reverse, without_reverse}
use Rattle.holder.specs.declared.row.Row.{Row}
use Rattle.holder.specs.Answers.{SoundGiving}
use Rattle.holder.specs.Ends.{EndLaws}
use Rattle.holder.specs.Kinds.{queue_given, queue_seat, stack_given, stack_seat}
use Rattle.holder.specs.Rows.{row_list}

-- given from the front, as a queue does
pub front_laws : EndLaws queue_given queue_seat (λ n i. i)
front_laws = record {
  seated = λ L c. omega arith;
  as_long = λ L. refl;
  as_often = λ c L. refl;
  as_held = λ c L. refl;
  grown = λ L c. sym (insert_end L c);
  left = λ c L o. refl;
  ranked = λ c L o h. refl;
  placed = λ L i h. (h, refl);
}

-- given from the back, as a stack does
pub back_laws : EndLaws stack_given stack_seat (λ n i. n - 1 - i)
back_laws = record {
  seated = λ L c. omega arith;
  as_long = λ L. length-reverse L;
  as_often = times_reverse;
  as_held = λ c L. stands_same c (reverse L) L (times_reverse c L);
  grown = λ L c. reverse-append L (c ∷ []);
  left = λ c L o. sym (without_reverse c L o);
  ranked = place_reverse;
  placed = λ L i h. (omega arith, get_or-reverse L i 0 h);
}

-- what holds of a row holds of its giving list
pub line_sound : (given : List ℕ → List ℕ) (seat : SeatRule) (across : ℕ → ℕ → ℕ) → EndLaws given seat across → (r : Row) → SoundGiving (given (row_list r)) r.added
line_sound given seat across laws r =
    let L = row_list r in
    let n = length-take-le r.len r.codes (omega arith) in
    let m = laws.as_long L in
    record {
      once = once_fewer L (given L) (λ a. omega (arith, laws.as_often a L)) r.once;
      below = below_fewer 1024 L (given L) (λ a. omega (arith, laws.as_often a L)) r.below;
      held = omega arith;
      few = omega arith;
    }
