-- The numbers of the kinds of strict object.
use Rattle.std.specs.Prelude.{ℕ, cond, Ok, Err, Result, ◌==◌}
use Rattle.frame.specs.declared.fault.FrameFault.{FrameFault}
use Rattle.frame.specs.declared.fault.FrameFault.TheVariants as fault
use Rattle.frame.specs.declared.kind.Kind.{Kind}
use Rattle.frame.specs.declared.kind.Kind.TheVariants.{Queue, Stack, CountingQueue}

-- the number by which a header says a kind
abbrev pub kind_number : Kind → ℕ
kind_number Queue = 0
kind_number Stack = 1
kind_number CountingQueue = 2

-- the kind with that number
abbrev pub kind_named : ℕ → Result Kind FrameFault
kind_named number = cond (number == 0) (Ok Queue) (cond (number == 1) (Ok Stack) (cond (number == 2) (Ok CountingQueue) (Err fault.Kind)))
