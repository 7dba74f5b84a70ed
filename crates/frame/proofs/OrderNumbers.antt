-- An order's bytes and its numbers determine one another.
use Rattle.std.proofs.Common.{◌≡◌, ℕ, zero, suc, ◌*◌, ◌≤◌, List, [], ◌∷◌, length, map, take, drop, w16, refl, arith, length-drop, length-take, take_at, drop_at}
use Rattle.std.proofs.lemmas.List.{take-append-drop}
use Rattle.std.specs.Int.{from_be_bytes}
use Rattle.std.specs.Int.Digits.{number_from_digits}
use Rattle.std.specs.List.{flat_map}
use Rattle.std.specs.Simd.{first_chunks}
use Rattle.record.specs.Bytes.{bytes_of_number, Bytes}
use Rattle.record.proofs.Digits.{length_bytes, number_of_bytes, bytes_back, bytes_take, bytes_drop}
use Rattle.frame.specs.Orders.{numbers_of, Small}

pub length_numbers : (n : ℕ) (bs : List ℕ) → length (numbers_of n bs) ≡ n
length_numbers zero bs = refl
length_numbers (suc n) bs = let e = length_numbers n (drop 2 bs) in omega arith

-- the numbers are those of the pairs of bytes
pub numbers_of_pairs : (n : ℕ) (bs : List ℕ) → 2 * n ≤ length bs → map (from_be_bytes w16) (first_chunks 2 n bs) ≡ numbers_of n bs
numbers_of_pairs zero bs h = refl
numbers_of_pairs (suc n) [] h = absurd (omega arith)
numbers_of_pairs (suc n) (x ∷ []) h = absurd (omega arith)
numbers_of_pairs (suc n) (x ∷ y ∷ bs) h =
    let i = numbers_of_pairs n bs (omega arith) in
    let e : from_be_bytes w16 (x ∷ y ∷ []) ≡ number_from_digits 256 (x ∷ y ∷ []) = omega arith in
    cc

pub numbers_there : (xs : List ℕ) → Small xs → numbers_of (length xs) (flat_map (bytes_of_number 2) xs) ≡ xs
numbers_there [] s = refl
numbers_there (x ∷ xs) s =
    let t = take_at (bytes_of_number 2 x) (flat_map (bytes_of_number 2) xs) 2 (length_bytes 2 x) in
    let d = drop_at (bytes_of_number 2 x) (flat_map (bytes_of_number 2) xs) 2 (length_bytes 2 x) in
    let n = number_of_bytes 2 x (omega (arith, s.0)) in
    let i = numbers_there xs s.1 in
    cc (t, d, n, i)

pub numbers_back : (n : ℕ) (bs : List ℕ) → Bytes bs → length bs ≡ 2 * n → (flat_map (bytes_of_number 2) (numbers_of n bs) ≡ bs) × Small (numbers_of n bs)
numbers_back zero [] b l = (refl, tt)
numbers_back zero (x ∷ bs) b l = absurd (omega arith)
numbers_back (suc n) bs b l =
    let h = bytes_back 2 (take 2 bs) (bytes_take 2 bs b) (simp length-take (omega arith)) in
    let i = numbers_back n (drop 2 bs) (bytes_drop 2 bs b) (simp length-drop (omega arith)) in
    let t = take-append-drop 2 bs in
    (cc (h.0, i.0, t), (omega (arith, h.1), i.1))
