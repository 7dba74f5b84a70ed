-- What each fault of the item layer says.
use Rattle.std.specs.Prelude.{ℕ}
use Rattle.refusal.specs.declared.Layer.TheVariants.{Item}
use Rattle.refusal.specs.declared.Refusal.{Refusal}
use Rattle.item.specs.declared.fault.ItemFault.{ItemFault}
use Rattle.item.specs.declared.fault.ItemFault.TheVariants.{OutsideType}

-- at the place of the record, or 0 outside a record
abbrev pub item_refusal : ℕ → ItemFault → Refusal
item_refusal place OutsideType = record { layer = Item; number = 12; place = place; detail = 0 }
