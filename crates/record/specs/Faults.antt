-- What each fault of the record layer says.
use Rattle.std.specs.Prelude.{ℕ}
use Rattle.refusal.specs.declared.Layer.TheVariants.{Record}
use Rattle.refusal.specs.declared.Refusal.{Refusal}
use Rattle.item.specs.Faults.{item_refusal}
use Rattle.record.specs.declared.fault.RecordFault.{RecordFault}
use Rattle.record.specs.declared.fault.RecordFault.TheVariants.{NoSuchMethod, SpareBit, Item, ItemOnFoundEmpty}

-- of the record at that place
abbrev pub record_refusal : ℕ → RecordFault → Refusal
record_refusal place NoSuchMethod = record { layer = Record; number = 10; place = place; detail = 0 }
record_refusal place SpareBit = record { layer = Record; number = 11; place = place; detail = 0 }
record_refusal place (Item e) = item_refusal place e
record_refusal place ItemOnFoundEmpty = record { layer = Record; number = 13; place = place; detail = 0 }
