-- The cases that a file holds, one after another.
use Rattle.std.proofs.Common.{◌≡◌, ℕ, ◌+◌, ◌<◌, true, false, nat_lt, List, [], ◌∷◌, length, take, drop, Some, None, refl, ap, sym, ◌∙◌, arith}
use Rattle.std.specs.Int.{from_be_bytes, w32}
use Rattle.std.specs.List.{IsSplitAt}
use Rattle.std.proofs.lemmas.Bool.Decides.{nat_tests}
use Rattle.comparison.specs.Files.{front_case, cases_in}
use Rattle.comparison.proofs.Fronts.{all_end, all_behind, case_shorter}

-- no letter, no length of a body, or no whole body: no case is left
pub no_letter : (bytes : List ℕ) → length bytes ≡ 0 → cases_in bytes ≡ []
no_letter [] e = all_end front_case [] refl
no_letter (letter ∷ rest) e = absurd (omega arith)

module _ {bytes : List ℕ} {letter : ℕ} {rest : List ℕ} (first : bytes ≡ letter ∷ rest) where
  pub no_length : length rest < 4 → cases_in bytes ≡ []
  no_length short =
      let yes : nat_lt (length rest) 4 ≡ true = grind (arith, nat_tests) in
      let none : front_case (letter ∷ rest) ≡ None = rw yes in
      ap cases_in first ∙ all_end front_case (letter ∷ rest) none

  module _ {number behind : List ℕ} {count : ℕ} (four : (number ≡ take 4 rest) × (behind ≡ drop 4 rest) × (length behind + 4 ≡ length rest)) (told : count ≡ from_be_bytes w32 number) where
    length_there : nat_lt (length rest) 4 ≡ false
    length_there =
        let long = four.2 in
        grind (arith, nat_tests)

    told_in : from_be_bytes w32 (take 4 rest) ≡ count
    told_in = sym (told ∙ ap (from_be_bytes w32) four.0)

    pub no_body : length behind < count → cases_in bytes ≡ []
    no_body short =
        let yes : nat_lt (length behind) count ≡ true = grind (arith, nat_tests) in
        let none : front_case (letter ∷ rest) ≡ None = rw (length_there, told_in, ← four.1, yes) in
        ap cases_in first ∙ all_end front_case (letter ∷ rest) none

    -- else the first of them, and those behind it
    pub whole_case : {body after : List ℕ} → IsSplitAt behind count body after → cases_in bytes ≡ (letter, body) ∷ cases_in after
    whole_case {body} {after} split =
        let fits = split.0 in
        let within : nat_lt (length behind) count ≡ false = grind (arith, nat_tests) in
        let some : front_case (letter ∷ rest) ≡ Some ((letter, body), after) = rw (length_there, told_in, ← four.1, within, split.1, split.2) in
        ap cases_in first ∙ all_behind front_case case_shorter (letter ∷ rest) ((letter, body), after) some
