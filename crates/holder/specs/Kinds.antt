-- The kinds of strict object: the giving list of each, and its seat rule. Assumes nothing.
use Rattle.std.specs.Prelude.{ℕ, List, reverse, length}
use Rattle.giving.specs.Lists.{SeatRule}
use Rattle.holder.specs.declared.line.Line.{Line}
use Rattle.holder.specs.declared.queue.Front.{Front}
use Rattle.holder.specs.Rows.{row_list}

-- a queue gives in the order of the row, and a new code goes to the end
abbrev pub queue_given : List ℕ → List ℕ
queue_given L = L

-- that list of a queue as a program has it
abbrev pub queue_list : Line Front → List ℕ
queue_list q = queue_given (row_list q.row)

-- the seat of a new code: behind the last
abbrev pub queue_seat : SeatRule
queue_seat L c = length L

-- a stack gives from the row's end, and a new code goes to the front
abbrev pub stack_given : List ℕ → List ℕ
stack_given L = reverse L

-- the seat of a new code: before the first
abbrev pub stack_seat : SeatRule
stack_seat L c = 0
