-- What each fault of the sheet says.
use Rattle.refusal.specs.declared.Layer.TheVariants.{Sheet}
use Rattle.refusal.specs.declared.Refusal.{Refusal}
use Rattle.sheet.specs.declared.fault.SheetFault.{SheetFault}
use Rattle.sheet.specs.declared.fault.SheetFault.TheVariants.{Full, EndBeforeStart, AddedAlready, TakenAlready}

-- the detail is the earlier operation, where there is one
abbrev pub sheet_refusal : SheetFault → Refusal
sheet_refusal (Full place) = record { layer = Sheet; number = 20; place = place; detail = 0 }
sheet_refusal (EndBeforeStart place) = record { layer = Sheet; number = 21; place = place; detail = 0 }
sheet_refusal (AddedAlready place earlier) = record { layer = Sheet; number = 22; place = place; detail = earlier }
sheet_refusal (TakenAlready place earlier) = record { layer = Sheet; number = 23; place = place; detail = earlier }
