-- A buffer whose front is written code by code, as far as a list and the buffer go. Assumes nothing.
use Rattle.std.proofs.Common.{◌≡◌, ℕ, ◌+◌, ◌<◌, min, List, [], ◌∷◌, ◌++◌, length, get_or, take, drop, set, sym, ap, ◌∙◌, arith}
use Rattle.std.proofs.lemmas.List.{append-nil, length-take, length-take-le, take_more, take_min, drop_all}
use Rattle.giving.proofs.Fronts.{front_push}
use Rattle.holder.specs.Answers.{front_over}

-- the code at the next place of a list
pub front_more : (L buffer now : List ℕ) (i c : ℕ) → i < length L → i < length buffer → c ≡ get_or L i 0 → now ≡ take i L ++ drop i buffer → set now i c ≡ take (i + 1) L ++ drop (i + 1) buffer
front_more L buffer now i c l h is was =
    front_push (take i L) buffer now i c (length-take-le i L (omega arith)) h was
    ∙ ap (λ (v : ℕ). (take i L ++ v ∷ []) ++ drop (i + 1) buffer) is ∙ ap (λ (f : List ℕ). f ++ drop (i + 1) buffer) (sym (take_more L i 0 l))

-- all of it
pub front_all : (L buffer : List ℕ) (n : ℕ) → n ≡ min (length L) (length buffer) → take n L ++ drop n buffer ≡ front_over L buffer
front_all L buffer n e =
    let f : n ≡ min (length buffer) (length L) = omega arith in
    let l : n ≡ length (take (length buffer) L) = f ∙ sym (length-take (length buffer) L) in
    ap (λ (m : ℕ). take m L ++ drop n buffer) f ∙ ap (λ (l : List ℕ). l ++ drop n buffer) (take_min (length buffer) L)
    ∙ ap (λ (m : ℕ). take (length buffer) L ++ drop m buffer) l

-- the same, where a part of the buffer was written to its end
pub front_part : (L buffer part : List ℕ) (n : ℕ) → n ≡ min (length L) (length buffer) → part ≡ take n L ++ drop n (take n buffer) → part ++ drop n buffer ≡ front_over L buffer
front_part L buffer part n e was =
    let end = drop_all n (take n buffer) (let l = length-take-le n buffer (omega arith) in omega arith) in
    ap (λ (l : List ℕ). l ++ drop n buffer) (was ∙ ap (λ (l : List ℕ). take n L ++ l) end ∙ append-nil (take n L)) ∙ front_all L buffer n e
