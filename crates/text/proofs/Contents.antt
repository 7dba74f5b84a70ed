-- Words behind words in the memory of a text. Assumes nothing.
use Rattle.std.proofs.Common.{◌≡◌, ℕ, zero, suc, ◌+◌, ◌-◌, ◌<◌, ◌≤◌, min, Bool, true, false, ◌&&◌, List, [], ◌∷◌, ◌++◌, length, get_or, take, drop, sym, refl, ap, ◌∙◌, ⊎_elim, arith, append-nil, length-append, length-drop, nat_le, ◌==◌}
use Rattle.std.proofs.lemmas.Bool.{cases_lt}
use Rattle.std.proofs.lemmas.Bool.Decides.{nat_tests}
use Rattle.std.proofs.lemmas.List.{append_assoc, length-take, length-take-le, take_min, take_all, take_more, drop_all, drop-drop}
use Rattle.std.proofs.Math.Seq.{take-append_seam, drop-append_seam}
use Rattle.std.proofs.lemmas.Grind.{flat_map-append}
use Rattle.std.specs.List.{flat_map}
use Rattle.text.specs.Contents.{Content, unsaid, with_words}

-- ---- a word over the memory from `at` on, as far as it fits
module _ (m w : List ℕ) (at fit : ℕ) (low : at ≤ length m) (fits : fit ≡ min (length w) (length m - at)) where
  abbrev laid : List ℕ
  laid = take at m ++ (take fit w ++ drop (at + fit) m)

  abbrev front : List ℕ
  front = take at m ++ take fit w

  laid_from_front : laid ≡ front ++ drop (at + fit) m
  laid_from_front = sym (append_assoc (take at m) (take fit w) (drop (at + fit) m))

  long : length front ≡ at + fit
  long = omega (arith, length-append (take at m) (take fit w), length-take-le at m low, length-take fit w, fits)

  fit_word : take fit w ≡ take (length (drop at m)) w
  fit_word =
      let least : fit ≡ min (length (drop at m)) (length w) = omega (arith, fits, length-drop at m) in
      ap (λ n. take n w) least ∙ take_min (length (drop at m)) w

  past : drop (at + fit) m ≡ drop (at + length w) m
  past =
      ⊎_elim (λ h. drop_all (at + fit) m (omega (arith, fits, h, low)) ∙ sym (drop_all (at + length w) m (omega (arith, h, low))))
      (λ h. let e : fit ≡ length w = omega (arith, fits, h) in ap (λ n. drop (at + n) m) e)
      (cases_lt (length m - at) (length w))

  pub in_front : take (at + fit) laid ≡ take at m ++ take (length (drop at m)) w
  in_front =
      ap (take (at + fit)) laid_from_front ∙ ap (λ n. take n (front ++ drop (at + fit) m)) (sym long) ∙ take-append_seam front (drop (at + fit) m)
      ∙ ap (λ z. take at m ++ z) fit_word

  pub behind : drop (at + fit) laid ≡ drop (length w) (drop at m)
  behind =
      ap (drop (at + fit)) laid_from_front ∙ ap (λ n. drop n (front ++ drop (at + fit) m)) (sym long) ∙ drop-append_seam front (drop (at + fit) m)
      ∙ past ∙ sym (drop-drop (length w) at m)

  pub fits_whole : (fit == length w) ≡ nat_le (length w) (length (drop at m))
  fits_whole = let n = length-drop at m in grind (arith, nat_tests)

-- ---- words, and then others, are all of them together
take_append : {A : Type 0} (n : ℕ) (xs ys : List A) → take n (xs ++ ys) ≡ take n xs ++ take (n - length xs) ys
take_append zero xs ys = let none : 0 - length xs ≡ 0 = omega arith in ap (λ k. take k ys) (sym none)
take_append (suc n) [] ys = let all : suc n - 0 ≡ suc n = omega arith in ap (λ k. take k ys) (sym all)
take_append (suc n) (x ∷ xs) ys =
    let left : n - length xs ≡ suc n - suc (length xs) = omega arith in
    ap (λ z. x ∷ z) (take_append n xs ys) ∙ ap (λ k. x ∷ (take n xs ++ take k ys)) left

both_fit : (w : Bool) (a b r n : ℕ) → n ≡ r - a → (w && nat_le a r && nat_le b n) ≡ (w && nat_le (a + b) r)
both_fit false a b r n e = refl
both_fit true a b r n e = grind (arith, nat_tests)

pub words_behind_words : (a b : List ℕ) (c : Content) → with_words b (with_words a c) ≡ with_words (a ++ b) c
unfolding with_words
words_behind_words a b c =
    let left = length-drop (length a) c.free in
    let bytes : c.bytes ++ take (length c.free) a ++ take (length (drop (length a) c.free)) b ≡ c.bytes ++ take (length c.free) (a ++ b) =
    append_assoc c.bytes (take (length c.free) a) (take (length (drop (length a) c.free)) b)
    ∙ ap (λ n. c.bytes ++ (take (length c.free) a ++ take n b)) left
    ∙ ap (λ z. c.bytes ++ z) (sym (take_append (length c.free) a b)) in
    let free : drop (length b) (drop (length a) c.free) ≡ drop (length (a ++ b)) c.free =
    drop-drop (length b) (length a) c.free ∙ ap (λ n. drop n c.free) (sym (length-append a b)) in
    let whole : (c.whole && nat_le (length a) (length c.free) && nat_le (length b) (length (drop (length a) c.free))) ≡ (c.whole && nat_le (length (a ++ b)) (length c.free)) =
    both_fit c.whole (length a) (length b) (length c.free) (length (drop (length a) c.free)) left
    ∙ ap (λ n. c.whole && nat_le n (length c.free)) (sym (length-append a b)) in
    rw (bytes, free, whole) refl

-- words said behind words that were said
pub then_said : (a b : List ℕ) (c : Content) {d e : Content} → d ≡ with_words a c → e ≡ with_words b d → e ≡ with_words (a ++ b) c
then_said a b c p q = q ∙ ap (with_words b) p ∙ words_behind_words a b c

-- nothing said changes nothing
and_fits : (w : Bool) (r : ℕ) → (w && nat_le 0 r) ≡ w
and_fits false r = refl
and_fits true r = grind (arith, nat_tests)

pub nothing_said : (c : Content) → with_words [] c ≡ c
unfolding with_words
nothing_said c =
    let bytes : c.bytes ++ take (length c.free) [] ≡ c.bytes = ap (λ z. c.bytes ++ z) (take_all (length c.free) [] (omega arith)) ∙ append-nil c.bytes in
    rw (bytes, and_fits c.whole (length c.free)) refl

-- the words of one piece more
pub one_piece_more : {A : Type 0} (f : A → List ℕ) (xs : List A) (i : ℕ) (d : A) → i < length xs → flat_map f (take i xs) ++ f (get_or xs i d) ≡ flat_map f (take (i + 1) xs)
one_piece_more f xs i d l =
    let y = get_or xs i d in
    ap (λ z. flat_map f (take i xs) ++ z) (sym (append-nil (f y))) ∙ sym (flat_map-append f (take i xs) (y ∷ [])) ∙ sym (ap (flat_map f) (take_more xs i d l))

-- ---- words in memory of which nothing is said yet
module _ (ws m : List ℕ) (lender : ℕ) where
  pub whole_words : length ws ≤ length m → with_words ws (unsaid m lender) ≡ record { bytes = ws; free = drop (length ws) m; whole = true; lender = lender }
  unfolding with_words
  whole_words l =
      let fits : nat_le (length ws) (length m) ≡ true = grind (arith, nat_tests) in
      rw (take_all (length m) ws l, fits) refl

  pub cut_words : length m < length ws → with_words ws (unsaid m lender) ≡ record { bytes = take (length m) ws; free = []; whole = false; lender = lender }
  unfolding with_words
  cut_words l =
      let short : nat_le (length ws) (length m) ≡ false = grind (arith, nat_tests) in
      rw (drop_all (length ws) m (omega (arith, l)), short) refl
