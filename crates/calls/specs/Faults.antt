-- The refusals of a docket in plain numbers. Assumes nothing.
use Rattle.std.specs.Prelude.{Some, None, Option}
use Rattle.refusal.specs.declared.Refusal.{Refusal}
use Rattle.refusal.specs.declared.Layer.TheVariants.{Docket}
use Rattle.calls.specs.declared.fault.DocketFault.{DocketFault}
use Rattle.calls.specs.declared.fault.DocketFault.TheVariants.{NoSuchOperation, PlacedAlready, TooEarly, NotHeld, AboveBound, NothingToLift, StepsMissing, BufferTooShort}
use Rattle.calls.specs.declared.fault.RefusalCode.{RefusalCode}

-- s is the number of placed steps, the second number what the refusal names
abbrev pub docket_refusal : DocketFault → Refusal
docket_refusal (NoSuchOperation s) = record { layer = Docket; number = 31; place = s; detail = 0 }
docket_refusal (PlacedAlready s) = record { layer = Docket; number = 32; place = s; detail = 0 }
docket_refusal (TooEarly s b) = record { layer = Docket; number = 33; place = s; detail = b }
docket_refusal (NotHeld s) = record { layer = Docket; number = 34; place = s; detail = 0 }
docket_refusal (AboveBound s r) = record { layer = Docket; number = 35; place = s; detail = r }
docket_refusal NothingToLift = record { layer = Docket; number = 36; place = 0; detail = 0 }
docket_refusal (StepsMissing s a) = record { layer = Docket; number = 37; place = s; detail = a }
docket_refusal (BufferTooShort n) = record { layer = Docket; number = 38; place = 0; detail = n }

-- what stopped a run, in plain numbers: all 0 for nothing
abbrev pub code_of : Option DocketFault → RefusalCode
code_of (Some e) = record { number = (docket_refusal e).number; place = (docket_refusal e).place; detail = (docket_refusal e).detail }
code_of None = record { number = 0; place = 0; detail = 0 }
