use Rattle.std.proofs.Common.{◌≡◌, ◌++◌, map, vec_items}
use Rattle.docket.specs.Slots.{call_of}
use Rattle.comparison.specs.Heaps.{has_refused}
use Rattle.comparison.specs.Calls.{docket_calls}
use Rattle.comparison.proofs.slots.all_slots.Given as goal

abbrev pub invariant-loop-call : goal.invariant-loop-call
invariant-loop-call l =
    goal.iterator-loop-call.can_next l.call-iterator
    × goal.iterator-loop-call.is_finite l.call-iterator
    × (map call_of (vec_items l.slots) ++ docket_calls l.call-iterator.0.now ≡ docket_calls l.fn.calls)
    × (has_refused l.heap ≡ has_refused l.fn.heap)
