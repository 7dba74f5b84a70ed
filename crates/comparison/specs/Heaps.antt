-- What is known of the heap.
use Rattle.std.specs.Prelude.{Bool}
use Rattle.comparison.specs.declared.heap.Heap.{Heap}

-- it has refused memory that it was asked for
abbrev pub has_refused : Heap → Bool
has_refused heap = heap.refused
