-- The records of a trace, each by its number.
use Rattle.std.proofs.Common.{◌≡◌, ℕ, zero, suc, ◌+◌, ◌*◌, ◌/◌, ◌<◌, ◌≤◌, List, [], ◌∷◌, length, get_or, take, drop, if◌then◌else◌, nat_lt, Some, None, refl, sym, ap, ◌∙◌, mul-zero, mul-suc, arith, length-drop}
use Rattle.std.proofs.lemmas.Bool.{cond_both, ltb-true, ltb-false}
use Rattle.std.proofs.lemmas.List.{drop-drop}
use Rattle.std.proofs.lemmas.Option.{slice_get-get_or, slice_get_past}
use Rattle.std.specs.List.{slice_get}
use Rattle.std.specs.Simd.{first_chunks}
use Rattle.frame.specs.Layout.{record_count, record_at, records_in}

length_chunks : (w n : ℕ) (xs : List ℕ) → length (first_chunks w n xs) ≡ n
length_chunks w zero xs = refl
length_chunks w (suc n) xs = let i = length_chunks w n (drop w xs) in omega arith

pub length_records : (bs : List ℕ) → length (records_in bs) ≡ record_count bs
length_records bs = length_chunks 24 (record_count bs) (drop 8 bs)

take_chunks : (w n m : ℕ) (xs : List ℕ) → n ≤ m → take n (first_chunks w m xs) ≡ first_chunks w n xs
take_chunks w zero m xs h = refl
take_chunks w (suc n) zero xs h = absurd (omega arith)
take_chunks w (suc n) (suc m) xs h = ap (λ cs. take w xs ∷ cs) (take_chunks w n m (drop w xs) (omega arith))

pub records_cut : (bs body : List ℕ) → body ≡ drop 8 bs → take (record_count bs) (first_chunks 24 (length body / 24) body) ≡ records_in bs
records_cut bs body e =
    let l = simp length-drop at (ap length e) in
    ap (λ xs. take (record_count bs) (first_chunks 24 (length body / 24) xs)) e ∙ take_chunks 24 (record_count bs) (length body / 24) (drop 8 bs) (omega arith)

chunk_at : (w i n : ℕ) (xs d : List ℕ) → i < n → get_or (first_chunks w n xs) i d ≡ take w (drop (w * i) xs)
chunk_at w i zero xs d h = absurd (omega arith)
chunk_at w zero (suc n) xs d h = ap (λ m. take w (drop m xs)) (sym (mul-zero w))
chunk_at w (suc i) (suc n) xs d h =
    let f : w + w * i ≡ w * suc i = let m = mul-suc w i in omega arith in
    chunk_at w i n (drop w xs) d (omega arith) ∙ ap (take w) (drop-drop (w * i) w xs ∙ ap (λ m. drop m xs) f)

pub record_in_turn : (i : ℕ) (bs d : List ℕ) → i < record_count bs → get_or (records_in bs) i d ≡ record_at i bs
record_in_turn i bs d h = chunk_at 24 i (record_count bs) (drop 8 bs) d h ∙ ap (take 24) (drop-drop (24 * i) 8 bs)

-- by its number each record is the part at its place, and there is none past the last
pub record_by_number : (i : ℕ) (bs : List ℕ) → slice_get (records_in bs) i ≡ (if nat_lt i (record_count bs) then Some (record_at i bs) else None)
record_by_number i bs =
    cond_both (nat_lt i (record_count bs)) (Some (record_at i bs)) None (λ r. slice_get (records_in bs) i ≡ r)
    (λ h.
    let below = ltb-true i (record_count bs) h in
    let here : i < length (records_in bs) = omega (arith, below, length_records bs) in
    slice_get-get_or (records_in bs) i [] here ∙ ap Some (record_in_turn i bs [] below))
    (λ h. let past = ltb-false i (record_count bs) h in slice_get_past (records_in bs) i (omega (arith, past, length_records bs)))
