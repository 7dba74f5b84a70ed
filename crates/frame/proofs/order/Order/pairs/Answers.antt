use Rattle.std.proofs.Common.{◌/◌, length, map, ap, ◌∙◌, arith}
use Rattle.std.specs.Int.{from_be_bytes, w16}
use Rattle.frame.proofs.OrderNumbers.{numbers_of_pairs}
use Rattle.frame.proofs.order.Order.pairs.Goals as goal

pub returns : goal.returns
returns c =
    let bs = c.args.self.now.bytes.now in
    ap (map (from_be_bytes w16)) c.as_chunks.ensures.front ∙ numbers_of_pairs (length bs / 2) bs (omega arith)
