use Rattle.std.proofs.Common.{◌≡◌, ◌≤◌, ◌++◌, length, take, drop}
use Rattle.counting.specs.Slots.{codes}
use Rattle.counting.proofs.arrivals.write_codes.Given as goal

abbrev pub invariant-loop-slot : goal.invariant-loop-slot
invariant-loop-slot l = record {
  many : l.written ≡ length (codes (take l.slot-index l.slots));
  room : l.written ≤ length l.buffer;
  front : l.buffer ≡ codes (take l.slot-index l.slots) ++ drop l.written l.initial.buffer;
}
