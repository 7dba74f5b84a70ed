use Rattle.std.proofs.Common.{◌^◌, arith, rules}
use Rattle.std.proofs.lemmas.Iterator.{YieldsList-from_slice}
use Rattle.std.proofs.lemmas.Iterator.Adapters.{fits_from_length, at_most_from_yields_List}
use Rattle.docket.proofs.ledger.certificate.total_of_ranks.Goals as goal

-- at most 1,024 rank errors, each of 16 bits
pub sum-requires-clause-fits : goal.sum-requires-clause-fits
sum-requires-clause-fits c =
    fits_from_length _ _ 1024 (2 ^ 32) (at_most_from_yields_List (YieldsList-from_slice c.args.order.now cc) c.requires) c.map.ensures.closure (omega arith) (λ x r q k. search rules)
