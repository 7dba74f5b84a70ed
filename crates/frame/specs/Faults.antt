-- What each fault of the frame layer says.
use Rattle.std.specs.Prelude.{ℕ}
use Rattle.refusal.specs.declared.Layer.TheVariants.{Frame}
use Rattle.refusal.specs.declared.Refusal.{Refusal}
use Rattle.frame.specs.declared.fault.FrameFault.{FrameFault}
use Rattle.frame.specs.declared.fault.FrameFault.TheVariants.{Short, Version, Kind, ItemType, SpareBit, Count, Length}

-- a refusal of the frame has no place and no detail
abbrev pub of_frame : ℕ → Refusal
of_frame number = record { layer = Frame; number = number; place = 0; detail = 0 }

-- numbered in the order of the checks
abbrev pub frame_refusal : FrameFault → Refusal
frame_refusal Short = of_frame 1
frame_refusal Version = of_frame 2
frame_refusal Kind = of_frame 3
frame_refusal ItemType = of_frame 4
frame_refusal SpareBit = of_frame 5
frame_refusal Count = of_frame 6
frame_refusal Length = of_frame 7
