-- Numbers and the bytes that say them.
use Rattle.std.proofs.Common.{◌≡◌, ℕ, zero, suc, ◌+◌, ◌*◌, ◌/◌, ◌%◌, ◌^◌, ◌<◌, ◌≤◌, List, [], ◌∷◌, ◌++◌, length, get_or, take, drop, Fits, w8, sym, refl, ap, ◌∙◌, pow-suc, arith, length-drop, length-take, length-take-le, take_all, take_at, drop_at}
use native.Mathlib.Nat.{pow-le-pow_right}
use Rattle.std.proofs.lemmas.List.{take_more}
use Rattle.std.specs.Int.Digits.{number_from_digits, number_from_digits_after}
use Rattle.std.specs.List.{fold}
use Rattle.std.specs.Int.{byte_at, bytes_high_first}
use Rattle.std.proofs.Math.Nat.{mul_comm, div-div-eq-div-mul}
use Rattle.std.proofs.lemmas.Int.Digits.{number_push}
use Rattle.record.specs.Bytes.{bytes_of_number, number_in, Bytes}

-- ---- the bytes of a number, with one more at the end
byte_above : (i n : ℕ) → byte_at (suc i) n ≡ byte_at i (n / 256)
byte_above zero n = refl
byte_above (suc i) n = rw (pow-suc 256 (suc i), mul_comm (256 ^ suc i) 256) (ap (λ z. z % 256) (sym (div-div-eq-div-mul n 256 (256 ^ suc i))))

high_push : (w n : ℕ) → bytes_high_first (suc w) n ≡ bytes_high_first w (n / 256) ++ n % 256 ∷ []
high_push zero n = refl
high_push (suc w) n = rw (byte_above w n, high_push w n) refl

bytes_push : (w n : ℕ) → bytes_of_number (suc w) n ≡ bytes_of_number w (n / 256) ++ n % 256 ∷ []
unfolding bytes_of_number
bytes_push w n = high_push w n

-- two of them
pub bytes_two : (n : ℕ) → bytes_of_number 2 n ≡ n / 256 % 256 ∷ n % 256 ∷ []
unfolding bytes_of_number
bytes_two n = refl

pub length_bytes : (w n : ℕ) → length (bytes_of_number w n) ≡ w
unfolding bytes_of_number
length_bytes zero n = refl
length_bytes (suc w) n = ap suc (length_bytes w n)

-- what is written is what is read
pub number_of_bytes : (w n : ℕ) → n < 256 ^ w → number_from_digits 256 (bytes_of_number w n) ≡ n
unfolding bytes_of_number
number_of_bytes zero n h = omega arith
number_of_bytes (suc w) n h =
    let l : n / 256 < 256 ^ w = let p = pow-suc 256 w in omega arith in
    let e = number_of_bytes w (n / 256) l in
    ap (number_from_digits 256) (bytes_push w n) ∙ number_push 256 (bytes_of_number w (n / 256)) (n % 256) ∙ omega (arith, e)

-- what the type of a list of bytes says
pub bytes_of_type : (xs : List ℕ) → ((k : ℕ) → Fits w8 (get_or xs k 0)) → Bytes xs
bytes_of_type xs h k = omega (arith, h k)

pub bytes_take : (n : ℕ) (xs : List ℕ) → Bytes xs → Bytes (take n xs)
bytes_take zero xs h = λ k. omega arith
bytes_take (suc n) [] h = h
bytes_take (suc n) (x ∷ xs) h = elim [ zero ↦ h 0 | suc k ↦ bytes_take n xs (λ j. h (suc j)) k ]

pub bytes_drop : (n : ℕ) (xs : List ℕ) → Bytes xs → Bytes (drop n xs)
bytes_drop zero xs h = h
bytes_drop (suc n) [] h = h
bytes_drop (suc n) (x ∷ xs) h = bytes_drop n xs (λ j. h (suc j))

last_apart : (w : ℕ) (xs : List ℕ) → length xs ≡ suc w → xs ≡ take w xs ++ get_or xs w 0 ∷ []
last_apart w xs l =
    let h : w < length xs = omega arith in
    sym (take_all (w + 1) xs (omega arith)) ∙ take_more xs w 0 h

-- what is read is what was written
pub bytes_back : (w : ℕ) (xs : List ℕ) → Bytes xs → length xs ≡ w → (bytes_of_number w (number_from_digits 256 xs) ≡ xs) × (number_from_digits 256 xs < 256 ^ w)
unfolding bytes_of_number
bytes_back zero [] b l = (refl, omega arith)
bytes_back zero (x ∷ xs) b l = absurd (omega arith)
bytes_back (suc w) xs b l =
    let p = last_apart w xs l in
    let i = bytes_back w (take w xs) (bytes_take w xs b) (length-take-le w xs (omega arith)) in
    let d = b w in
    let e : number_from_digits 256 xs ≡ number_from_digits 256 (take w xs) * 256 + get_or xs w 0 = ap (number_from_digits 256) p ∙ number_push 256 (take w xs) (get_or xs w 0) in
    let q : number_from_digits 256 xs / 256 ≡ number_from_digits 256 (take w xs) = omega arith in
    let r : number_from_digits 256 xs % 256 ≡ get_or xs w 0 = omega arith in
    let s = pow-suc 256 w in (
      bytes_push w (number_from_digits 256 xs) ∙ ap (λ n. bytes_of_number w n ++ number_from_digits 256 xs % 256 ∷ []) q ∙ ap (λ ys. ys ++ number_from_digits 256 xs % 256 ∷ []) i.0 ∙ ap (λ n. take w xs ++ n ∷ []) r ∙ sym p,
      omega (arith, i.1),
    )

-- what is written of a field is what was read
pub field_back : (at w : ℕ) (bs : List ℕ) → Bytes bs → at + w ≤ length bs → (bytes_of_number w (number_in at w bs) ≡ take w (drop at bs)) × (number_in at w bs < 256 ^ w)
field_back at w bs b l = bytes_back w (take w (drop at bs)) (bytes_take w (drop at bs) (bytes_drop at bs b)) (simp (length-take, length-drop) (omega arith))

-- the running number of the bytes, modulo 2^64
pub running : (r n : ℕ) (xs : List ℕ) → r ≡ n % 2 ^ 64 → fold (λ m b. (m * 256 % 2 ^ 64 + b) % 2 ^ 64) r xs ≡ number_from_digits_after 256 n xs % 2 ^ 64
running r n [] e = e
running r n (x ∷ xs) e = running ((r * 256 % 2 ^ 64 + x) % 2 ^ 64) (n * 256 + x) xs (omega arith)

-- of up to eight bytes, no more than their number counts
pub narrow : (r w : ℕ) (xs : List ℕ) → Bytes xs → length xs ≤ w → r ≡ number_from_digits 256 xs % 2 ^ 64 → w ≤ 8 →
    (r ≡ number_from_digits 256 xs) × (r < 256 ^ w)
narrow r w xs b l e h =
    let p = bytes_back (length xs) xs b refl in
    let z : 0 < 256 = omega arith in
    let k : 256 ^ length xs ≤ 256 ^ w = pow-le-pow_right z l in
    let m : 256 ^ w ≤ 256 ^ 8 = pow-le-pow_right z h in
    (omega (arith, p.1), omega (arith, p.1))

pub with_four : {X : Type 0} {Y : Type 0} (f : X → X → X → X → Y) {a a' b b' c c' d d' : X} → a ≡ a' → b ≡ b' → c ≡ c' → d ≡ d' →
    f a b c d ≡ f a' b' c' d'
with_four f p q r s = λ j. f (p j) (q j) (r j) (s j)

-- what is read of a field is what was written
pub field : (p w n : ℕ) (all front rest : List ℕ) → all ≡ front ++ (bytes_of_number w n ++ rest) → length front ≡ p → n < 256 ^ w →
    number_in p w all ≡ n
field p w n all front rest e h l =
    rw (e, drop_at front (bytes_of_number w n ++ rest) p h, take_at (bytes_of_number w n) rest w (length_bytes w n)) (number_of_bytes w n l)
