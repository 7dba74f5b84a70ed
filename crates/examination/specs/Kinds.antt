-- The strict objects by the number of their kind.
use Rattle.std.specs.Prelude.{ℕ, cond, ◌==◌}
use Rattle.std.specs.Result.{result_unwrap_or}
use Rattle.giving.specs.Lists.{SeatRule}
use Rattle.frame.specs.declared.kind.Kind.{Kind}
use Rattle.frame.specs.declared.kind.Kind.TheVariants.{CountingQueue}
use Rattle.frame.specs.Kinds.{kind_named}
use Rattle.holder.specs.Kinds.{queue_seat, stack_seat}

-- the seat rule of a kind: 1 is the stack, 0 and 2 are queues
abbrev pub seat_of : ℕ → SeatRule
seat_of kind = cond (kind == 1) stack_seat queue_seat

-- the kind that a number is taken for, where every number is taken
abbrev pub any_kind : ℕ → Kind
any_kind number = result_unwrap_or (kind_named number) CountingQueue
