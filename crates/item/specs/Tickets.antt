-- The tickets.
use Rattle.std.specs.Prelude.{ℕ, ◌^◌, ◌<◌, cond, Ok, Err, Result, nat_lt}
use Rattle.item.specs.declared.fault.ItemFault.{ItemFault}
use Rattle.item.specs.declared.fault.ItemFault.TheVariants.{OutsideType}
use Rattle.item.specs.declared.item.Item.{Ghosts}
use Rattle.item.specs.declared.ticket.Ticket.{Ticket}

-- the ticket that has the number
abbrev pub ticket_named : ℕ → Result Ticket ItemFault
ticket_named n = cond (nat_lt n (2 ^ 32)) (Ok (record { number = n })) (Err OutsideType)

-- what tickets mean as items
abbrev pub ticket_items : Ghosts Ticket
ticket_items = record { TYPE = 0; number = λ x. x.number; fit = λ x. x.number < 2 ^ 32; named = ticket_named }
