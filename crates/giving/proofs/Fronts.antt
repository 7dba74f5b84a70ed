-- What a buffer has after a list was written over its front. Assumes nothing.
use Rattle.std.proofs.Common.{◌≡◌, ℕ, ◌+◌, ◌<◌, List, [], ◌∷◌, ◌++◌, length, get_or, take, drop, set, sym, ap, ◌∙◌}
use Rattle.std.proofs.Math.ListN.{get_or-append}
use Rattle.std.proofs.lemmas.List.{drop_more, set_at, append_assoc, take_at}
use Rattle.giving.specs.Fronts.{over}

-- with one more entry
pub front_push : (front buffer now : List ℕ) (i c : ℕ) → length front ≡ i → i < length buffer → now ≡ front ++ drop i buffer → set now i c ≡ (front ++ c ∷ []) ++ drop (i + 1) buffer
front_push front buffer now i c n h was =
    ap (λ (b : List ℕ). set b i c) was ∙ ap (λ (b : List ℕ). set (front ++ b) i c) (drop_more buffer i 0 h)
    ∙ set_at front (get_or buffer i 0) (drop (i + 1) buffer) c i n ∙ sym (append_assoc front (c ∷ []) (drop (i + 1) buffer))

-- its front is the list, place by place and as a whole
pub over_at : (xs buffer : List ℕ) (i : ℕ) → i < length xs → get_or (over xs buffer) i 0 ≡ get_or xs i 0
over_at xs buffer i h = get_or-append xs (drop (length xs) buffer) 0 i h

pub take_over : (xs buffer : List ℕ) (n : ℕ) → length xs ≡ n → take n (over xs buffer) ≡ xs
take_over xs buffer n e = take_at xs (drop (length xs) buffer) n e
