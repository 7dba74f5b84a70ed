-- What writing a trace answers, and what it leaves.
use Rattle.std.specs.Prelude.{ℕ, ◌+◌, ◌*◌, cond, not, List, length, is_ok, Ok, Err, Result, ◌==◌, nat_lt}
use Rattle.giving.specs.Fronts.{over}
use Rattle.item.specs.declared.item.Item.{Ghosts}
use Rattle.sheet.specs.declared.operation.Operation.{Operation}
use Rattle.trace.specs.Contents.{contents, encode}
use Rattle.trace.specs.declared.fault.WriteFault.{WriteFault}
use Rattle.trace.specs.declared.fault.WriteFault.TheVariants.{Kind, OrderLength, Memory}

-- of a kind, that many operations and order numbers, and memory of that many bytes
abbrev pub write_answer : ℕ → ℕ → ℕ → ℕ → Result (Unit {0}) WriteFault
write_answer kind ops order bytes =
    cond (nat_lt 2 kind) (Err Kind) (cond (not (order == ops)) (Err OrderLength) (cond (nat_lt bytes (8 + 26 * ops)) (Err Memory) (Ok tt)))

-- what memory has once operations are written into it, with a kind, a k and an order: the trace over its front, or as before where that is refused
abbrev pub memory_after : {I : Type 0} → Ghosts I → ℕ → ℕ → List (Operation I) → List ℕ → List ℕ → List ℕ
memory_after t kind k os order before =
    cond (is_ok (write_answer kind (length os) (length order) (length before))) (over (encode t (contents kind k os order)) before) before
