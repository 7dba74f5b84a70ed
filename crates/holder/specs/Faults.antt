-- The refusals of a holder in plain numbers. Assumes nothing.
use Rattle.std.specs.Prelude.{ℕ}
use Rattle.refusal.specs.declared.Refusal.{Refusal}
use Rattle.refusal.specs.declared.Layer.TheVariants.{Holder}
use Rattle.holder.specs.declared.fault.HolderFault.{HolderFault}
use Rattle.holder.specs.declared.fault.HolderFault.TheVariants.{CodeTooLarge, AlreadyHeld, AddsUsedUp, NotHeld, NoSuchPlace}

-- the number of each refusal
abbrev pub fault_number : HolderFault → ℕ
fault_number CodeTooLarge = 40
fault_number AlreadyHeld = 41
fault_number AddsUsedUp = 42
fault_number NotHeld = 43
fault_number NoSuchPlace = 44

-- a holder's refusal has no place and no detail
abbrev pub holder_refusal : HolderFault → Refusal
holder_refusal f = record { layer = Holder; number = fault_number f; place = 0; detail = 0 }
