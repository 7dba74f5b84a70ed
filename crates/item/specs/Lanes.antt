-- The lanes: six bits, the highest first.
use Rattle.std.specs.Prelude.{ℕ, ◌+◌, ◌*◌, ◌/◌, ◌%◌, Bool, cond, Ok, Err, Result, ◌==◌, nat_lt}
use Rattle.item.specs.declared.fault.ItemFault.{ItemFault}
use Rattle.item.specs.declared.fault.ItemFault.TheVariants.{OutsideType}
use Rattle.item.specs.declared.lane.Lane.{Lane}

-- what a bit counts for where it is the lowest
abbrev pub bit : Bool → ℕ
bit b = cond b 1 0

-- the number that the six bits say
abbrev pub lane_number : Lane → ℕ
lane_number l = 32 * bit l.bit5 + 16 * bit l.bit4 + 8 * bit l.bit3 + 4 * bit l.bit2 + 2 * bit l.bit1 + bit l.bit0

-- whether the bit that counts w is set in n
abbrev pub has_bit : ℕ → ℕ → Bool
has_bit n w = n / w % 2 == 1

-- the lane of a number's six lowest bits
abbrev pub lane_of : ℕ → Lane
lane_of n = record { bit5 = has_bit n 32; bit4 = has_bit n 16; bit3 = has_bit n 8; bit2 = has_bit n 4; bit1 = has_bit n 2; bit0 = (n % 2 == 1) }

-- the lane that has the number
abbrev pub lane_named : ℕ → Result Lane ItemFault
lane_named n = cond (nat_lt 63 n) (Err OutsideType) (Ok (lane_of n))
