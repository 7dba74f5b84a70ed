-- Hashes of bytes that stand one after another.
use Rattle.std.proofs.Common.{◌≡◌, ℕ, zero, suc, ◌+◌, ◌<◌, true, nat_lt, List, [], ◌∷◌, ◌++◌, length, drop, sym, refl, ◌∙◌, zero-add, add-one, arith, drop-cons}
use Rattle.std.proofs.lemmas.Bool.Decides.{nat_tests}
use Rattle.std.specs.List.{fold, flat_map, filter_map, range_with_len}
use Rattle.std.specs.Result.{result_ok}
use Rattle.std.proofs.lemmas.Grind.{fold-append}
use Rattle.std.proofs.lemmas.List.{drop_all}
use Rattle.holder.specs.Answers.{at_answer}
use Rattle.comparison.specs.Hashes.{hashed_byte, hashed}

pub hashed-append : (h : ℕ) (a b : List ℕ) → hashed h (a ++ b) ≡ hashed (hashed h a) b
unfolding hashed
hashed-append h a b = fold-append hashed_byte h a b

hashed-none : (h : ℕ) → hashed h [] ≡ h
unfolding hashed
hashed-none h = refl

-- the hash of one part after another is that of all of them together
pub fold-hashed : {X : Type 0} (f : X → List ℕ) (h : ℕ) (xs : List X) → fold (λ g x. hashed g (f x)) h xs ≡ hashed h (flat_map f xs)
fold-hashed f h [] = sym (hashed-none h)
fold-hashed f h (x ∷ xs) = fold-hashed f (hashed h (f x)) xs ∙ sym (hashed-append h (f x) (flat_map f xs))

-- the items of a list, place by place from i on
from_place : (list : List ℕ) (n i : ℕ) → i + n ≡ length list → filter_map (λ p. result_ok (at_answer list p)) (range_with_len i n) ≡ drop i list
from_place list zero i e = sym (drop_all i list (omega arith))
from_place list (suc n) i e =
    let lt : i < length list = omega arith in
    let yes : nat_lt i (length list) ≡ true = grind (arith, nat_tests) in
    let more = from_place list n (i + 1) (omega arith) in
    rw yes (cc (more, drop-cons list i 0 lt, add-one i))

-- and all of them
pub all_at : (list : List ℕ) → filter_map (λ p. result_ok (at_answer list p)) (range_with_len 0 (length list)) ≡ list
all_at list = from_place list (length list) 0 (zero-add (length list))
