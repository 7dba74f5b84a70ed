-- What a holder answers to a list of calls, by its seat rule alone. Assumes nothing.
use Rattle.std.specs.Prelude.{◌≡◌, ℕ, List, [], ◌∷◌, length, Option, Some, None, Ok, Err, Result}
use Rattle.giving.specs.Lists.{SeatRule}
use Rattle.turns.specs.declared.calls.HolderCall.{HolderCall}
use Rattle.turns.specs.declared.calls.HolderCall.TheVariants.{Clear, Count, Rank, At, Add, Take}
use Rattle.turns.specs.declared.calls.HolderTurn.{HolderTurn}
use Rattle.holder.specs.declared.fault.HolderFault.{HolderFault}
use Rattle.holder.specs.Answers.{add_answer, rank_answer, at_answer, take_answer}
use Rattle.holder.specs.Meanings.{Meaning, meaning, after_add, after_take}

-- the answer of a call that answers nothing but a refusal
abbrev pub done_answer : Result (Unit {0}) HolderFault → Result (Option ℕ) HolderFault
done_answer (Ok u) = Ok None
done_answer (Err f) = Err f

-- the answer of a call that answers a number
abbrev pub number_answer : Result ℕ HolderFault → Result (Option ℕ) HolderFault
number_answer (Ok v) = Ok (Some v)
number_answer (Err f) = Err f

-- the answer to a call
abbrev pub call_answer : Meaning → HolderCall → Result (Option ℕ) HolderFault
call_answer m Clear = Ok None
call_answer m Count = Ok (Some (length m.list))
call_answer m (Rank c) = number_answer (rank_answer m.list c)
call_answer m (At p) = number_answer (at_answer m.list p)
call_answer m (Add c) = done_answer (add_answer m.list m.count c)
call_answer m (Take c) = done_answer (take_answer m.list c)

-- what the holder stands for after a call
abbrev pub after : SeatRule → Meaning → HolderCall → Meaning
after seat m Clear = meaning [] 0
after seat m Count = m
after seat m (Rank c) = m
after seat m (At p) = m
after seat m (Add c) = after_add seat m c
after seat m (Take c) = after_take m c

-- and after all the calls
abbrev pub after_all : SeatRule → Meaning → List HolderTurn → Meaning
after_all seat m [] = m
after_all seat m (t ∷ ts) = after_all seat (after seat m t.call) ts

-- the calls with their answers written beside them
abbrev pub answered : SeatRule → Meaning → List HolderTurn → List HolderTurn
answered seat m [] = []
answered seat m (t ∷ ts) = record { call = t.call; answer = call_answer m t.call } ∷ answered seat (after seat m t.call) ts

-- the answers written beside the calls are the right ones
abbrev pub Answered : SeatRule → Meaning → List HolderTurn → Type 0
Answered seat m [] = Unit {0}
Answered seat m (t ∷ ts) = (t.answer ≡ call_answer m t.call) × Answered seat (after seat m t.call) ts
