-- A stamp and its number determine one another.
use Rattle.std.specs.Prelude.{◌≡◌, ℕ, zero, suc, ◌+◌, ◌*◌, ◌/◌, ◌%◌, ◌^◌, ◌<◌, false, Ok, nat_lt}
use Rattle.std.proofs.Common.{ap, ◌∙◌, arith}
use Rattle.std.proofs.lemmas.Bool.Decides.{nat_tests}
use Rattle.item.specs.declared.stamp.Stamp.{Stamp}
use Rattle.item.specs.declared.stamp.Stamp.TheVariants.{Serial, InLane}
use Rattle.item.specs.declared.lane.Lane.{Lane}
use Rattle.item.specs.Lanes.{lane_number, lane_of, lane_named}
use Rattle.item.specs.Stamps.{stamp_number, StampFits, stamp_of, stamp_named}
use Rattle.item.specs.LaneBits.{number_of_lane, number_small, lane_of_number}

-- the number of a stamp that fits names that stamp
pub stamp_there : (x : Stamp) → StampFits x → stamp_named (stamp_number x) ≡ Ok x
stamp_there (Serial s) h =
    let c : s / 2 ^ 38 ≡ 0 = omega arith in
    let l : s / 2 ^ 32 % 64 ≡ 0 = omega arith in
    let r : s % 2 ^ 32 ≡ s = omega arith in
    simp (c, l, r)
stamp_there (InLane lane s) h =
    let n = stamp_number (InLane lane s) in
    let small = number_small lane in
    let c : (2 ^ 38 + lane_number lane * 2 ^ 32 + s) / 2 ^ 38 ≡ 1 = omega arith in
    let l : (2 ^ 38 + lane_number lane * 2 ^ 32 + s) / 2 ^ 32 % 64 ≡ lane_number lane = omega arith in
    let r : (2 ^ 38 + lane_number lane * 2 ^ 32 + s) % 2 ^ 32 ≡ s = omega arith in
    simp (c, l, r, lane_of_number lane)

-- the number of the stamp that a case, a lane and the rest make
of_parts : (case lane rest : ℕ) (x : Stamp) → lane < 64 → rest < 2 ^ 32 → stamp_of case lane rest ≡ Ok x →
    (stamp_number x ≡ case * 2 ^ 38 + lane * 2 ^ 32 + rest) × StampFits x
of_parts zero zero rest (Serial s) l r e = let q : rest ≡ s = cc in (omega arith, omega arith)
of_parts zero zero rest (InLane m s) l r e = cc
of_parts zero (suc lane) rest x l r e = absurd (grind (arith, nat_tests))
of_parts (suc zero) lane rest (Serial s) l r e = cc
of_parts (suc zero) lane rest (InLane m s) l r e =
    let p : lane_of lane ≡ m = cc in
    let q : rest ≡ s = cc in
    let k : lane_number m ≡ lane = ap lane_number (cc) ∙ number_of_lane lane l in
    (omega arith, omega arith)
of_parts (suc (suc case)) lane rest x l r e = absurd (grind (arith, nat_tests))

-- the stamp that a number names has that number, and fits
pub stamp_back : (n : ℕ) (x : Stamp) → stamp_named n ≡ Ok x → (stamp_number x ≡ n) × StampFits x
stamp_back n x e =
    let p = of_parts (n / 2 ^ 38) (n / 2 ^ 32 % 64) (n % 2 ^ 32) x (omega arith) (omega arith) e in
    let q = p.0 in
    (omega arith, p.1)

-- case 1, with the lane that its six bits name
pub in_lane : (case lane rest : ℕ) (l : Lane) → case ≡ 1 → lane < 64 → Ok l ≡ lane_named lane → Ok (InLane l rest) ≡ stamp_of case lane rest
in_lane zero lane rest l p h e = absurd (omega arith)
in_lane (suc zero) lane rest l p h e =
    let b : nat_lt 63 lane ≡ false = grind (arith, nat_tests) in
    let m : l ≡ lane_of lane = let f = rw b at e in cc in
    ap (λ z. Ok (InLane z rest)) m
in_lane (suc (suc case)) lane rest l p h e = absurd (omega arith)
