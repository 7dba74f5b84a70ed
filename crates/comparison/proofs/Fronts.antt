-- Pieces at the front of bytes, one after another: calls and cases.
use Rattle.std.proofs.Common.{◌≡◌, ℕ, zero, suc, ◌*◌, ◌<◌, ◌≤◌, Bool, true, false, cond, ◌==◌, nat_lt, List, [], ◌∷◌, length, take, drop, Some, None, Option, refl, ap, ◌∙◌, sym, arith}
use Rattle.std.specs.Int.{from_be_bytes, w16, w32}
use Rattle.std.proofs.lemmas.List.{length-drop}
use Rattle.std.specs.Option.{option_map, option_and_then}
use Rattle.turns.specs.declared.calls.HolderCall.{HolderCall}
use Rattle.turns.specs.declared.calls.HolderCall.TheVariants.{Clear, Count}
use Rattle.frame.specs.Orders.{numbers_of}
use Rattle.calls.specs.Calls.{Call, place, run, lift, certify}
use Rattle.comparison.specs.Pieces.{and_behind, first_pieces, all_pieces}
use Rattle.comparison.specs.Calls.{front_number, with_number, call_with_number, front_holder_call, blank_buffers, run_of_numbers, certify_of_numbers, front_docket_call}
use Rattle.comparison.specs.Files.{Case, case_with_body, front_case}

module _ {C : Type 0} (front : List ℕ → Option (C × List ℕ)) where
  none_at : (n : ℕ) (bytes : List ℕ) → front bytes ≡ None → first_pieces front n bytes ≡ []
  none_at zero bytes e = refl
  none_at (suc n) bytes e = ap (and_behind (first_pieces front n)) e

  some_at : (n : ℕ) (bytes : List ℕ) (p : C × List ℕ) → front bytes ≡ Some p → first_pieces front (suc n) bytes ≡ p.0 ∷ first_pieces front n p.1
  some_at n bytes p e = ap (and_behind (first_pieces front n)) e

  pub all_end : (bytes : List ℕ) → front bytes ≡ None → all_pieces front bytes ≡ []
  unfolding all_pieces
  all_end bytes e = none_at (length bytes) bytes e

  module _ (shorter : (bytes : List ℕ) (p : C × List ℕ) → front bytes ≡ Some p → length p.1 < length bytes) where
    -- any bound from the length on gives the same pieces
    enough : (n m : ℕ) (bytes : List ℕ) → length bytes ≤ n → length bytes ≤ m → (r : Option (C × List ℕ)) → front bytes ≡ r → first_pieces front n bytes ≡ first_pieces front m bytes
    enough n m bytes hn hm None e = none_at n bytes e ∙ sym (none_at m bytes e)
    enough zero m bytes hn hm (Some p) e = absurd (omega (arith, shorter bytes p e))
    enough (suc n) zero bytes hn hm (Some p) e = absurd (omega (arith, shorter bytes p e))
    enough (suc n) (suc m) bytes hn hm (Some p) e =
        let less = shorter bytes p e in
        some_at n bytes p e ∙ ap (λ l. p.0 ∷ l) (enough n m p.1 (omega arith) (omega arith) (front p.1) refl) ∙ sym (some_at m bytes p e)

    pub all_behind : (bytes : List ℕ) (p : C × List ℕ) → front bytes ≡ Some p → all_pieces front bytes ≡ p.0 ∷ all_pieces front p.1
    unfolding all_pieces
    all_behind bytes p e =
        let less = shorter bytes p e in
        enough (length bytes) (suc (length bytes)) bytes (omega arith) (omega arith) (Some p) e
        ∙ some_at (length bytes) bytes p e
        ∙ ap (λ l. p.0 ∷ l) (enough (length bytes) (length p.1) p.1 (omega arith) (omega arith) (front p.1) refl)

mapped : {C : Type 0} (o : Option C) (rest : List ℕ) (p : C × List ℕ) → option_map (λ call. (call, rest)) o ≡ Some p → p.1 ≡ rest
mapped None rest p e = cc
mapped (Some call) rest p e = cc

-- ---- what is behind a piece is part of what is behind its tag

within_rest : {C : Type 0} (call : C) (rest : List ℕ) (p : C × List ℕ) → Some (call, rest) ≡ Some p → length p.1 ≤ length rest
within_rest call rest p e =
    let same : p.1 ≡ rest = cc in
    omega (arith, ap length same)

within_same : {C : Type 0} (rest : List ℕ) (p : C × List ℕ) → p.1 ≡ rest → length p.1 ≤ length rest
within_same rest p e = omega (arith, ap length e)

within_none : {C : Type 0} (n : ℕ) (p : C × List ℕ) → None ≡ Some p → length p.1 ≤ n
within_none n p e = cc

module _ {C : Type 0} (n : ℕ) (p : C × List ℕ) where
  within_either : (b : Bool) {x y : Option (C × List ℕ)} → (x ≡ Some p → length p.1 ≤ n) → (y ≡ Some p → length p.1 ≤ n) → cond b x y ≡ Some p → length p.1 ≤ n
  within_either true hx hy e = hx e
  within_either false hx hy e = hy e

within_front : (bytes : List ℕ) (p : ℕ × List ℕ) → front_number bytes ≡ Some p → length p.1 ≤ length bytes
unfolding front_number
within_front bytes p e =
    within_either (length bytes) p (nat_lt (length bytes) 2) (within_none (length bytes) p)
    (λ h. let inner = within_rest (from_be_bytes w16 (take 2 bytes)) (drop 2 bytes) p h in omega (arith, inner, length-drop 2 bytes)) e

module _ {C : Type 0} (n : ℕ) (say : ℕ → List ℕ → Option (C × List ℕ)) (p : C × List ℕ) (within : (m : ℕ) (rest : List ℕ) → say m rest ≡ Some p → length p.1 ≤ length rest) where
  within_said : (o : Option (ℕ × List ℕ)) → ((q : ℕ × List ℕ) → o ≡ Some q → length q.1 ≤ n) → option_and_then (λ q. say q.0 q.1) o ≡ Some p → length p.1 ≤ n
  within_said None front e = cc
  within_said (Some q) front e = omega (arith, within q.0 q.1 e, front q refl)

within_number : {C : Type 0} (bytes : List ℕ) (say : ℕ → List ℕ → Option (C × List ℕ)) (p : C × List ℕ) → ((n : ℕ) (rest : List ℕ) → say n rest ≡ Some p → length p.1 ≤ length rest) →
    with_number bytes say ≡ Some p → length p.1 ≤ length bytes
within_number bytes say p within e = within_said (length bytes) say p within (front_number bytes) (within_front bytes) e

-- behind a call on a holder there is less
pub holder_shorter : (bytes : List ℕ) (p : HolderCall × List ℕ) → front_holder_call bytes ≡ Some p → length p.1 < length bytes
holder_shorter [] p e = cc
holder_shorter (tag ∷ bytes) p e =
    let within : length p.1 ≤ length bytes =
    within_either (length bytes) p (tag == 0) (within_rest Clear bytes p)
    (within_either (length bytes) p (tag == 1) (within_rest Count bytes p)
    (within_number bytes _ p (λ n rest h. within_same rest p (mapped (call_with_number tag n) rest p h)))) e in
    omega arith

within_run : (count : ℕ) (bytes : List ℕ) (p : Call × List ℕ) → run_of_numbers count bytes ≡ Some p → length p.1 ≤ length bytes
within_run count bytes p e =
    within_either (length bytes) p (nat_lt (length bytes) (2 * count)) (within_none (length bytes) p)
    (λ h. let inner = within_rest (run (numbers_of count (take (2 * count) bytes))) (drop (2 * count) bytes) p h in omega (arith, inner, length-drop (2 * count) bytes)) e

within_certify : (bytes : List ℕ) (p : Call × List ℕ) → certify_of_numbers bytes ≡ Some p → length p.1 ≤ length bytes
within_certify bytes p e =
    within_number bytes _ p
    (λ ranks rest h. within_number rest _ p (λ instants others g. within_number others _ p (λ latenesses behind f. within_rest (certify (blank_buffers ranks instants latenesses)) behind p f) g) h) e

-- behind a call on a docket there is less
pub docket_shorter : (bytes : List ℕ) (p : Call × List ℕ) → front_docket_call bytes ≡ Some p → length p.1 < length bytes
docket_shorter [] p e = cc
docket_shorter (tag ∷ bytes) p e =
    let within : length p.1 ≤ length bytes =
    within_either (length bytes) p (tag == 0) (within_number bytes _ p (λ x rest h. within_rest (place x) rest p h))
    (within_either (length bytes) p (tag == 1) (within_number bytes _ p (λ count rest h. within_run count rest p h))
    (within_either (length bytes) p (tag == 2) (within_rest lift bytes p)
    (within_either (length bytes) p (tag == 3) (within_certify bytes p) (within_none (length bytes) p)))) e in
    omega arith

-- ---- cases

within_body : (letter count : ℕ) (bytes : List ℕ) (p : Case × List ℕ) → case_with_body letter count bytes ≡ Some p → length p.1 ≤ length bytes
within_body letter count bytes p e =
    within_either (length bytes) p (nat_lt (length bytes) count) (within_none (length bytes) p)
    (λ h. let inner = within_rest (letter, take count bytes) (drop count bytes) p h in omega (arith, inner, length-drop count bytes)) e

-- behind a case there is less
pub case_shorter : (bytes : List ℕ) (p : Case × List ℕ) → front_case bytes ≡ Some p → length p.1 < length bytes
case_shorter [] p e = cc
case_shorter (letter ∷ bytes) p e =
    let within : length p.1 ≤ length bytes =
    within_either (length bytes) p (nat_lt (length bytes) 4) (within_none (length bytes) p)
    (λ h. let inner = within_body letter (from_be_bytes w32 (take 4 bytes)) (drop 4 bytes) p h in omega (arith, inner, length-drop 4 bytes)) e in
    omega arith
