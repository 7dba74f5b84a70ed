-- What a holder stands for. Assumes nothing.
use Rattle.std.specs.Prelude.{ℕ, ◌+◌, cond, List, is_ok}
use Rattle.std.specs.List.{insert}
use Rattle.giving.specs.Lists.{SeatRule, without}
use Rattle.holder.specs.Answers.{add_answer}

-- its giving list, and its count of adds
pub record Meaning : Type 0 where
  pub list : List ℕ
  pub count : ℕ

-- of that list and that count
abbrev pub meaning : List ℕ → ℕ → Meaning
meaning L n = record { list = L; count = n }

-- what it stands for after a code is added: an accepted one goes in at its seat, and is counted
abbrev pub after_add : SeatRule → Meaning → ℕ → Meaning
after_add seat m c = cond (is_ok (add_answer m.list m.count c)) (meaning (insert m.list (seat m.list c) c) (m.count + 1)) m

-- and after a code is taken
abbrev pub after_take : Meaning → ℕ → Meaning
after_take m c = meaning (without c m.list) m.count
