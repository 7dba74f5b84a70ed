-- A lane and its number determine one another.
use Rattle.std.specs.Prelude.{◌≡◌, ℕ, ◌+◌, ◌*◌, ◌/◌, ◌%◌, ◌<◌, Bool, ◌==◌}
use Rattle.std.proofs.Common.{arith}
use Rattle.std.proofs.lemmas.Bool.Decides.{nat_tests}
use Rattle.item.specs.declared.lane.Lane.{Lane}
use Rattle.item.specs.Lanes.{bit, lane_number, lane_of}

bit_of : (n : ℕ) → n < 2 → bit (n == 1) ≡ n
bit_of n h = grind (arith, nat_tests)

bit_small : (b : Bool) → bit b < 2
bit_small b = grind (arith, nat_tests)

-- a number below 64 is that of its lane
pub number_of_lane : (n : ℕ) → n < 64 → lane_number (lane_of n) ≡ n
number_of_lane n h =
    let a = bit_of (n % 2) (omega arith) in
    let b = bit_of (n / 2 % 2) (omega arith) in
    let k = bit_of (n / 4 % 2) (omega arith) in
    let d = bit_of (n / 8 % 2) (omega arith) in
    let e = bit_of (n / 16 % 2) (omega arith) in
    let f = bit_of (n / 32 % 2) (omega arith) in
    let q : n / 4 ≡ n / 2 / 2 = omega arith in
    let r : n / 8 ≡ n / 4 / 2 = omega arith in
    let s : n / 16 ≡ n / 8 / 2 = omega arith in
    let t : n / 32 ≡ n / 16 / 2 = omega arith in
    omega arith

-- a lane's number is below 64
pub number_small : (l : Lane) → lane_number l < 64
number_small l =
    let a = bit_small l.bit0 in
    let b = bit_small l.bit1 in
    let k = bit_small l.bit2 in
    let d = bit_small l.bit3 in
    let e = bit_small l.bit4 in
    let f = bit_small l.bit5 in
    omega arith

-- the lowest bit, and the rest
split : (x y : Bool) (p q : ℕ) → 2 * p + bit x ≡ 2 * q + bit y → (x ≡ y) × (p ≡ q)
split x y p q e = grind (arith, nat_tests)

-- lanes of one number are one lane
pub same_lane : (l m : Lane) → lane_number l ≡ lane_number m → l ≡ m
same_lane l m same =
    let rest1 : Lane → ℕ = λ z. 16 * bit z.bit5 + 8 * bit z.bit4 + 4 * bit z.bit3 + 2 * bit z.bit2 + bit z.bit1 in
    let rest2 : Lane → ℕ = λ z. 8 * bit z.bit5 + 4 * bit z.bit4 + 2 * bit z.bit3 + bit z.bit2 in
    let rest3 : Lane → ℕ = λ z. 4 * bit z.bit5 + 2 * bit z.bit4 + bit z.bit3 in
    let rest4 : Lane → ℕ = λ z. 2 * bit z.bit5 + bit z.bit4 in
    let a = split l.bit0 m.bit0 (rest1 l) (rest1 m) (omega arith) in
    let b = split l.bit1 m.bit1 (rest2 l) (rest2 m) (omega (arith, a.1)) in
    let k = split l.bit2 m.bit2 (rest3 l) (rest3 m) (omega (arith, b.1)) in
    let d = split l.bit3 m.bit3 (rest4 l) (rest4 m) (omega (arith, k.1)) in
    let e = split l.bit4 m.bit4 (bit l.bit5) (bit m.bit5) (omega (arith, d.1)) in
    let f = split l.bit5 m.bit5 0 0 (omega (arith, e.1)) in
    let made : Bool → Bool → Bool → Bool → Bool → Bool → Lane =
    λ b5 b4 b3 b2 b1 b0. record { bit5 = b5; bit4 = b4; bit3 = b3; bit2 = b2; bit1 = b1; bit0 = b0 } in
    let whole : made l.bit5 l.bit4 l.bit3 l.bit2 l.bit1 l.bit0 ≡ made m.bit5 m.bit4 m.bit3 m.bit2 m.bit1 m.bit0 =
    cc (a.0, b.0, k.0, d.0, e.0, f.0) in
    whole

-- a lane is that of its number
pub lane_of_number : (l : Lane) → lane_of (lane_number l) ≡ l
lane_of_number l = same_lane (lane_of (lane_number l)) l (number_of_lane (lane_number l) (number_small l))
