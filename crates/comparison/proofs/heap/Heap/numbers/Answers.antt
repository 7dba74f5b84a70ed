use Rattle.std.proofs.Common.{◌≡◌, ◌/◌, length, arith, rules, map}
use Rattle.std.specs.Int.{from_be_bytes, w16}
use Rattle.std.specs.Simd.{first_chunks}
use Rattle.frame.specs.Orders.{numbers_of}
use Rattle.frame.proofs.OrderNumbers.{numbers_of_pairs}
use Rattle.comparison.proofs.heap.Heap.numbers.Goals as goal

pub returns-clause-items : goal.returns-clause-items
returns-clause-items c =
    let bs = c.args.bytes.now in
    let all : map (from_be_bytes w16) (first_chunks 2 (length bs / 2) bs) ≡ numbers_of (length bs / 2) bs = numbers_of_pairs (length bs / 2) bs (omega arith) in
    rw (c.noted.ensures.same, ← all) (search rules)
