-- Buffers whose front is written: by a holder with its first codes, and by a loop turn by turn. Assumes nothing.
use Rattle.std.proofs.Common.{◌≡◌, ℕ, ◌+◌, ◌<◌, ◌≤◌, min, List, [], ◌∷◌, ◌++◌, map, length, get_or, take, drop, set, sym, refl, ap, ◌∙◌, arith}
use Rattle.std.proofs.lemmas.List.{take_at, take_min, length-take-le, length_push, length-map, map_more}
use Rattle.giving.specs.Fronts.{over}
use Rattle.giving.specs.Lists.{Below}
use Rattle.giving.proofs.Counts.{times_take, below_fewer}
use Rattle.giving.proofs.Fronts.{front_push}
use Rattle.holder.specs.Answers.{front_over}
use Rattle.docket.specs.Buffers.{buffers_of}
use Rattle.holder.proofs.Fronts.{front_all}

-- as many entries as it says that it wrote are the first codes, as many as the buffer has entries for
pub front_read : (L buffer now : List ℕ) (n : ℕ) → n ≡ min (length L) (length buffer) → now ≡ front_over L buffer → take n now ≡ take (length buffer) L
front_read L buffer now n e was =
    let m : n ≡ min (length buffer) (length L) = omega arith in
    ap (take n) (was ∙ sym (front_all L buffer n e)) ∙ take_at (take n L) (drop n buffer) n (length-take-le n L (omega arith))
    ∙ ap (λ (k : ℕ). take k L) m ∙ take_min (length buffer) L

pub below_take : (n k : ℕ) (L : List ℕ) → Below n L → Below n (take k L)
below_take n k L b = below_fewer n L (take k L) (λ a. times_take a k L) b

-- three buffers hold the same where each does
pub same_buffers : {r s i j t u : List ℕ} → r ≡ s → i ≡ j → t ≡ u → buffers_of r i t ≡ buffers_of s j u
same_buffers {r} {s} {i} {j} {t} {u} a b c = ap (λ (v : List ℕ). buffers_of v i t) a ∙ ap (λ (v : List ℕ). buffers_of s v t) b ∙ ap (buffers_of s j) c

-- ---- a turn of a loop that writes: the front grows by the value written at its length
pub over_more : (front next buffer bs : List ℕ) (i v w : ℕ) → length front ≡ i → i < length buffer → next ≡ front ++ w ∷ [] → v ≡ w → bs ≡ over front buffer → set bs i v ≡ over next buffer
over_more front next buffer bs i v w n h e is was =
    let long : i + 1 ≡ length next = omega (arith, n, ap length e, length_push front w) in
    front_push front buffer bs i v n h (was ∙ ap (λ (k : ℕ). front ++ drop k buffer) n)
    ∙ ap (λ (k : ℕ). (front ++ k ∷ []) ++ drop (i + 1) buffer) is ∙ ap (λ (f : List ℕ). f ++ drop (i + 1) buffer) (sym e) ∙ ap (λ (k : ℕ). next ++ drop k buffer) long

-- the same, of what f says of the elements of a list
module _ {X : Type 0} (f : X → ℕ) (d : X) (xs : List X) (buffer bs : List ℕ) (i : ℕ) where
  pub over_map_more : i < length xs → length xs ≤ length buffer → bs ≡ over (map f (take i xs)) buffer → set bs i (f (get_or xs i d)) ≡ over (map f (take (i + 1) xs)) buffer
  over_map_more h l was =
      over_more (map f (take i xs)) (map f (take (i + 1) xs)) buffer bs i (f (get_or xs i d)) (f (get_or xs i d))
      (length-map (take i xs) f ∙ length-take-le i xs (omega arith)) (omega arith) (map_more f xs i d h) refl was
