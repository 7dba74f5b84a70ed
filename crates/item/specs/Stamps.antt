-- The stamps: a case of 2 bits, a lane of 6 and 32 for the rest. Case 0 is a serial, its lane bits zero; case 1 is a lane with its count.
use Rattle.std.specs.Prelude.{ℕ, ◌+◌, ◌*◌, ◌/◌, ◌%◌, ◌^◌, ◌<◌, cond, Ok, Err, Result, ◌==◌}
use Rattle.item.specs.declared.fault.ItemFault.{ItemFault}
use Rattle.item.specs.declared.fault.ItemFault.TheVariants.{OutsideType}
use Rattle.item.specs.declared.item.Item.{Ghosts}
use Rattle.item.specs.declared.stamp.Stamp.{Stamp}
use Rattle.item.specs.declared.stamp.Stamp.TheVariants.{Serial, InLane}
use Rattle.item.specs.Lanes.{lane_number, lane_of}

-- a serial is its own number; a lane with its count is in case 1
abbrev pub stamp_number : Stamp → ℕ
stamp_number (Serial serial) = serial
stamp_number (InLane lane count) = 2 ^ 38 + lane_number lane * 2 ^ 32 + count

-- the serial, or the count, has 32 bits
abbrev pub StampFits : Stamp → Type 0
StampFits (Serial serial) = serial < 2 ^ 32
StampFits (InLane lane count) = count < 2 ^ 32

-- the stamp of a case, a lane and the rest
abbrev pub stamp_of : ℕ → ℕ → ℕ → Result Stamp ItemFault
stamp_of case lane rest =
    cond (case == 0) (cond (lane == 0) (Ok (Serial rest)) (Err OutsideType)) (cond (case == 1) (Ok (InLane (lane_of lane) rest)) (Err OutsideType))

-- the stamp that has the number
abbrev pub stamp_named : ℕ → Result Stamp ItemFault
stamp_named n = stamp_of (n / 2 ^ 38) (n / 2 ^ 32 % 64) (n % 2 ^ 32)

-- what stamps mean as items
abbrev pub stamp_items : Ghosts Stamp
stamp_items = record { TYPE = 1; number = stamp_number; fit = StampFits; named = stamp_named }
