-- The first numbers of an order, with 0 past the last.
use Rattle.std.proofs.Common.{◌≡◌, ℕ, ◌≤◌, List, length, get_or, take, refl, sym, ap, ◌∙◌}
use Rattle.std.proofs.lemmas.List.FromFn.{fill_by_all, take-map-range_with_len}
use Rattle.std.proofs.lemmas.Option.{unwrap_or-slice_get}
use Rattle.std.specs.Array.{IsFromFnResult}
use Rattle.std.specs.Fn.{Mut, Called}
use Rattle.std.specs.List.{slice_get}
use Rattle.std.specs.Option.{unwrap_or}
use Rattle.giving.proofs.Made.{made}
use Rattle.frame.specs.Orders.{first_numbers}

-- an array that calls made, which leave f as it is and give the number of xs at the index or 0, has the first numbers of xs
module _ {F : Type 0} {g : Mut F (ℕ × Unit {0}) ℕ} {f : F} (xs ys : List ℕ) (call : (x y : ℕ) (q : F) → Called g f (x, tt) y q → (y ≡ unwrap_or (slice_get xs x) 0) × (q ≡ f)) where
  pub first_made : {n : ℕ} → IsFromFnResult g f ys n → ys ≡ first_numbers n xs
  first_made {n} r =
      fill_by_all (λ i. get_or xs i 0) ys n 0 r.long (λ x h. made ys (λ i. unwrap_or (slice_get xs i) 0) call r x 0 h ∙ unwrap_or-slice_get xs x 0)

-- their front is all the numbers, where these are no more
pub front_of_first : (n : ℕ) (xs : List ℕ) {count : ℕ} {ys : List ℕ} → count ≡ length xs → ys ≡ first_numbers n xs → length xs ≤ n → take count ys ≡ xs
front_of_first n xs {count} {ys} all first few =
    let at : ℕ → ℕ = λ i. get_or xs i 0 in
    ap (λ k. take k ys) all ∙ ap (take (length xs)) first ∙ take-map-range_with_len at 0 n (length xs) few ∙ sym (fill_by_all at xs (length xs) 0 refl (λ i h. refl))
