use Rattle.std.proofs.Common.{rules}
use Rattle.frame.specs.Orders.{order_of}
use Rattle.frame.proofs.FirstNumbers.{first_made}
use Rattle.frame.proofs.order.Order.numbers.Goals as goal

pub returns : goal.returns
returns g c = first_made (order_of c.args.self.now) c.from_fn.result (λ x y q e. search rules) c.from_fn.ensures.items
