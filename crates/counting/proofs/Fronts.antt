-- The codes of the first slots, and of those from the first used one on. Assumes nothing.
use Rattle.std.proofs.Common.{◌≡◌, ℕ, ◌+◌, ◌<◌, min, Option, Some, None, List, [], ◌∷◌, ◌++◌, length, get_or, take, drop, sym, ap, ◌∙◌, take-append-drop}
use Rattle.std.proofs.lemmas.List.{append-nil, take_at, take_more, nil_from_length}
use Rattle.holder.specs.Answers.{front_over}
use Rattle.holder.proofs.Fronts.{front_all}
use Rattle.counting.specs.Blocks.{used_upto}
use Rattle.counting.specs.Slots.{codes}
use Rattle.counting.specs.Codes.{codes_append, codes_used, codes_free, codes_empty, length_codes}

-- the codes up to a slot, and those from it on
pub codes_split : (s : List (Option ℕ)) (i : ℕ) → codes s ≡ codes (take i s) ++ codes (drop i s)
codes_split s i = ap codes (sym (take-append-drop i s)) ∙ codes_append (take i s) (drop i s)

-- with one slot more
codes_next : (s : List (Option ℕ)) (i : ℕ) → i < length s → codes (take (i + 1) s) ≡ codes (take i s) ++ codes (get_or s i None ∷ [])
codes_next s i h = ap codes (take_more s i None h) ∙ codes_append (take i s) (get_or s i None ∷ [])

pub codes_more : (s : List (Option ℕ)) (i c : ℕ) → i < length s → get_or s i None ≡ Some c → codes (take (i + 1) s) ≡ codes (take i s) ++ c ∷ []
codes_more s i c h u =
    codes_next s i h ∙ ap (λ (o : Option ℕ). codes (take i s) ++ codes (o ∷ [])) u
    ∙ ap (λ (l : List ℕ). codes (take i s) ++ l) (codes_used c [] ∙ ap (λ (l : List ℕ). c ∷ l) codes_empty)

pub codes_same : (s : List (Option ℕ)) (i : ℕ) → i < length s → get_or s i None ≡ None → codes (take (i + 1) s) ≡ codes (take i s)
codes_same s i h u =
    codes_next s i h ∙ ap (λ (o : Option ℕ). codes (take i s) ++ codes (o ∷ [])) u
    ∙ ap (λ (l : List ℕ). codes (take i s) ++ l) (codes_free [] ∙ codes_empty) ∙ append-nil (codes (take i s))

-- no slot is used before i
pub codes_from : (s : List (Option ℕ)) (i : ℕ) → used_upto s i ≡ 0 → codes (drop i s) ≡ codes s
codes_from s i z = sym (codes_split s i ∙ ap (λ (l : List ℕ). l ++ codes (drop i s)) (nil_from_length (codes (take i s)) (length_codes s i ∙ z)))

-- the codes of the first slots are as many as the buffer takes
pub codes_over : (s : List (Option ℕ)) (buffer now : List ℕ) (i n : ℕ) → n ≡ length (codes (take i s)) → n ≡ min (length (codes s)) (length buffer) → now ≡ codes (take i s) ++ drop n buffer → now ≡ front_over (codes s) buffer
codes_over s buffer now i n l e was =
    let first : take n (codes s) ≡ codes (take i s) = ap (take n) (codes_split s i) ∙ take_at (codes (take i s)) (codes (drop i s)) n (sym l) in
    was ∙ ap (λ (f : List ℕ). f ++ drop n buffer) (sym first) ∙ front_all (codes s) buffer n e
