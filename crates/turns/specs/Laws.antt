-- Two holders with one seat rule. Assumes nothing.
use Rattle.std.specs.Prelude.{◌≡◌, ℕ, List}
use Rattle.giving.specs.Lists.{SeatRule}
use Rattle.turns.specs.declared.calls.HolderTurn.{HolderTurn}
use Rattle.holder.specs.Meanings.{Meaning}
use Rattle.turns.specs.Calls.{answered, after_all}

-- two rules give every new code the same seat
abbrev pub SameSeat : SeatRule → SeatRule → Type 0
SameSeat s t = (L : List ℕ) (c : ℕ) → s L c ≡ t L c

-- two holders with the same seat rule that stand for the same answer any list of calls alike, and stand for the same after it
abbrev pub SameSeatsAnswerAlike : Type 0
SameSeatsAnswerAlike = (s t : SeatRule) → SameSeat s t → (m : Meaning) (turns : List HolderTurn) → (answered s m turns ≡ answered t m turns) × (after_all s m turns ≡ after_all t m turns)
