-- What is written is read back: in general, and the cases of a file.
use Rattle.std.proofs.Common.{◌≡◌, ℕ, zero, suc, ◌^◌, ◌<◌, List, [], ◌∷◌, ◌++◌, length, take, refl, sym, ap, ◌∙◌, append_assoc, arith, length-append, length-take-le, length-drop, take_at, drop_at, ⊎_elim}
use Rattle.std.specs.Int.{from_be_bytes, w32}
use Rattle.std.specs.List.{AllByRecursion, flat_map}
use Rattle.std.proofs.lemmas.List.{take-take}
use Rattle.std.proofs.lemmas.Bool.{cases_lt}
use Rattle.std.proofs.lemmas.Nat.{from_be_bytes-to_be_bytes_4}
use Rattle.record.specs.Bytes.{bytes_of_number}
use Rattle.record.proofs.Digits.{length_bytes}
use Rattle.comparison.specs.Files.{cases_in}
use Rattle.comparison.specs.Laws.{CaseFits, bytes_of_case, CasesAreReadBack}
use Rattle.comparison.proofs.Files.{no_letter, no_length, no_body, whole_case}

-- pieces that fit, one after another: each is read where it stands in front, and none where they end
module _ {C : Type 0} (Fits : C → Type 0) (write : C → List ℕ) (read : List ℕ → List C) (first : (x : C) (rest : List ℕ) → Fits x → read (write x ++ rest) ≡ x ∷ read rest) where
  pub all_read : (xs : List C) (rest : List ℕ) → AllByRecursion Fits xs → read rest ≡ [] → read (flat_map write xs ++ rest) ≡ xs
  all_read [] rest fit e = e
  all_read (x ∷ xs) rest fit e = ap read (append_assoc (write x) (flat_map write xs) rest) ∙ first x (flat_map write xs ++ rest) fit.0 ∙ ap (λ l. x ∷ l) (all_read xs rest fit.1 e)

-- ---- cases

four_back : (n : ℕ) → n < 2 ^ 32 → from_be_bytes w32 (bytes_of_number 4 n) ≡ n
unfolding bytes_of_number
four_back n fits = from_be_bytes-to_be_bytes_4 n fits

module _ (letter : ℕ) (body : List ℕ) (fits : length body < 2 ^ 32) where
  abbrev four : List ℕ
  four = bytes_of_number 4 (length body)

  long : length four ≡ 4
  long = length_bytes 4 (length body)

  first_case : (rest : List ℕ) → cases_in (bytes_of_case (letter, body) ++ rest) ≡ (letter, body) ∷ cases_in rest
  first_case rest =
      whole_case (ap (λ l. letter ∷ l) (append_assoc four body rest))
      (sym (take_at four (body ++ rest) 4 long), sym (drop_at four (body ++ rest) 4 long), omega (arith, length-append four (body ++ rest), long)) (sym (four_back (length body) fits))
      (omega (arith, length-append body rest), sym (take_at body rest (length body) refl), sym (drop_at body rest (length body) refl), refl, omega (arith, length-append body rest))

  no_whole_case : (n : ℕ) → n < length (bytes_of_case (letter, body)) → cases_in (take n (bytes_of_case (letter, body))) ≡ []
  no_whole_case zero less = no_letter [] refl
  no_whole_case (suc n) less =
      let front = take n (four ++ body) in
      let there : length front ≡ n = length-take-le n (four ++ body) (omega arith) in
      ⊎_elim (λ short. no_length {rest = front} refl (omega (arith, there, short)))
      (λ enough.
      no_body {rest = front} refl (sym (take-take 4 n (four ++ body) enough ∙ take_at four body 4 long), refl, omega (arith, length-drop 4 front, there, enough)) (sym (four_back (length body) fits))
      (omega (arith, length-drop 4 front, there, less, length-append four body, long)))
      (cases_lt n 4)

pub cases_read_back : CasesAreReadBack
cases_read_back cases rest fit cut =
    all_read CaseFits bytes_of_case cases_in (λ x behind h. first_case x.0 x.1 h behind) cases rest fit
    (ap cases_in cut.4 ∙ no_whole_case cut.0.0 cut.0.1 cut.1 cut.2 cut.3)
