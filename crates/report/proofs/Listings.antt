-- Lines, one after another, by iterators over lists.
use Rattle.std.proofs.Common.{◌≡◌, ℕ, zero, suc, ◌+◌, ◌<◌, ◌≤◌, List, [], ◌∷◌, ◌++◌, length, get_or, drop, Some, sym, refl, ap, ◌∙◌, append-nil, add-one, arith, length-drop}
use Rattle.std.specs.List.{slice_get}
use Rattle.std.proofs.lemmas.Option.{slice_get_within, get_or_from_slice_get}
use Rattle.sheet.specs.declared.operation.Method.{Method}
use Rattle.sheet.specs.declared.operation.Method.TheVariants.{Add, Take, FoundEmpty}
use Rattle.text.specs.Contents.{Content, with_words}
use Rattle.text.proofs.Contents.{then_said}
use Rattle.report.specs.Lines.{up_to, late_of_method}

-- the text holds f 0 to f (n - 1) behind what it held at first
module _ (f : ℕ → List ℕ) (n n' : ℕ) (next : n' ≡ n + 1) (before : Content) {so_far : Content} (said : so_far ≡ with_words (up_to n f) before) where
  -- the next line
  pub one_more : (line : List ℕ) {now : Content} → f n ≡ line → now ≡ with_words line so_far → now ≡ with_words (up_to n' f) before
  one_more line e p =
      then_said (up_to n f) line before said p ∙ ap (λ z. with_words (up_to n f ++ z) before) (sym e) ∙ ap (λ k. with_words (up_to k f) before) (sym (next ∙ add-one n))

  -- where nothing is said of the next
  pub none_more : f n ≡ [] → so_far ≡ with_words (up_to n' f) before
  none_more e =
      said ∙ ap (λ z. with_words z before) (sym (append-nil (up_to n f))) ∙ ap (λ z. with_words (up_to n f ++ z) before) (sym e)
      ∙ ap (λ k. with_words (up_to k f) before) (sym (next ∙ add-one n))

-- an iterator over a list that has given n of its items gives one more, and has the rest left
pub record Taken {A : Type 0} (xs : List A) (n n' : ℕ) (y : A) (rest : List A) : Type 0 where
  pub below : n < length xs
  pub at : (d : A) → get_or xs n d ≡ y
  pub got : slice_get xs n ≡ Some y
  pub left : rest ≡ drop n' xs

first_of : {A : Type 0} (xs rest : List A) (n : ℕ) (y : A) → drop n xs ≡ y ∷ rest → (slice_get xs n ≡ Some y) × (rest ≡ drop (suc n) xs)
first_of [] rest zero y e = absurd (cc)
first_of [] rest (suc n) y e = absurd (cc)
first_of (x ∷ xs) rest zero y e = (ap Some (cc), cc)
first_of (x ∷ xs) rest (suc n) y e = first_of xs rest n y e

pub taken : {A : Type 0} (xs before rest : List A) (n n' : ℕ) (y : A) → before ≡ drop n xs → before ≡ y ∷ rest → n' ≡ n + 1 → Taken xs n n' y rest
taken xs before rest n n' y b e next =
    let t = first_of xs rest n y (sym b ∙ e) in
    record {
      below = slice_get_within xs n y t.0;
      at = λ d. get_or_from_slice_get xs n y d t.0;
      got = t.0;
      left = t.1 ∙ ap (λ k. drop k xs) (sym (next ∙ add-one n));
    }

-- and where it has none left
pub at_end : {A : Type 0} (xs rest : List A) (n : ℕ) → rest ≡ drop n xs → length rest ≡ 0 → length xs ≤ n
at_end xs rest n e z = omega (arith, ap length e, length-drop n xs)

-- only an add has a line
pub not_added : {I : Type 0} (n late : ℕ) (m : Method I) → ((x : I) → m ≡ Add x → ⊥) → late_of_method n late m ≡ []
not_added n late (Add x) h = absurd (h x refl)
not_added n late (Take x) h = refl
not_added n late FoundEmpty h = refl
