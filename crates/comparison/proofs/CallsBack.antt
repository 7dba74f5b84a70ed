-- Calls that are written are read back, on a holder and on a docket.
use Rattle.std.proofs.Common.{◌≡◌, ℕ, zero, suc, ◌+◌, ◌*◌, ◌-◌, ◌^◌, ◌<◌, ◌≤◌, true, false, ◌==◌, nat_lt, List, [], ◌∷◌, ◌++◌, length, take, drop, Some, None, Option, refl, sym, ap, ◌∙◌, append_assoc, arith, length-append, length-take-le, take_at, drop_at, ⊎_elim}
use Rattle.std.specs.Int.{from_be_bytes, w16}
use Rattle.std.specs.List.{flat_map}
use Rattle.std.specs.Option.{option_map, option_and_then}
use Rattle.std.proofs.lemmas.List.{take-take, drop-take}
use Rattle.std.proofs.lemmas.Bool.{cases_lt}
use Rattle.std.proofs.lemmas.Bool.Decides.{nat_tests}
use Rattle.std.proofs.lemmas.Nat.{from_be_bytes-to_be_bytes_2}
use Rattle.record.specs.Bytes.{bytes_of_number}
use Rattle.record.proofs.Digits.{length_bytes}
use Rattle.frame.specs.Orders.{Small}
use Rattle.frame.proofs.OrderNumbers.{numbers_there}
use Rattle.turns.specs.declared.calls.HolderCall.{HolderCall}
use Rattle.turns.specs.declared.calls.HolderCall.TheVariants.{Clear, Count, Rank, At, Add, Take}
use Rattle.calls.specs.Rules.{Buffers}
use Rattle.calls.specs.Calls.{Call, place, run, lift, certify}
use Rattle.comparison.specs.Calls.{front_number, with_number, call_with_number, front_holder_call, holder_calls, blank_buffers, run_of_numbers, front_docket_call, docket_calls}
use Rattle.comparison.specs.Laws.{bytes_of_holder_call, HolderCallFits, HolderCallsAreReadBack, bytes_of_docket_call, DocketCallFits, DocketCallsAreReadBack}
use Rattle.comparison.proofs.Fronts.{all_end, all_behind, holder_shorter, docket_shorter}
use Rattle.comparison.proofs.ReadBack.{all_read}

-- ---- numbers of 2 bytes

abbrev shorts : List ℕ → List ℕ
shorts = flat_map (bytes_of_number 2)

length_shorts : (ns : List ℕ) → length (shorts ns) ≡ 2 * length ns
length_shorts [] = refl
length_shorts (n ∷ ns) = omega (arith, length-append (bytes_of_number 2 n) (shorts ns), length_bytes 2 n, length_shorts ns)

two_back : (n : ℕ) → n < 2 ^ 16 → from_be_bytes w16 (bytes_of_number 2 n) ≡ n
unfolding bytes_of_number
two_back n fits = from_be_bytes-to_be_bytes_2 n fits

module _ {C : Type 0} (say : ℕ → List ℕ → Option (C × List ℕ)) (n : ℕ) (fits : n < 2 ^ 16) (ns : List ℕ) where
  abbrev two : List ℕ
  two = bytes_of_number 2 n

  -- what is said of the first of them
  first_number : (rest : List ℕ) → with_number (shorts (n ∷ ns) ++ rest) say ≡ say n (shorts ns ++ rest)
  unfolding front_number
  first_number rest =
      let long = length_bytes 2 n in
      let enough : nat_lt (length (two ++ (shorts ns ++ rest))) 2 ≡ false = let l = length-append two (shorts ns ++ rest) in grind (arith, nat_tests) in
      rw (append_assoc two (shorts ns) rest, enough, take_at two (shorts ns ++ rest) 2 long, drop_at two (shorts ns ++ rest) 2 long, two_back n fits) refl

  -- numbers that are cut off say nothing, where what is left of those behind the first says nothing
  cut_number : (k : ℕ) → k < length (shorts (n ∷ ns)) → ((j : ℕ) → j < length (shorts ns) → say n (take j (shorts ns)) ≡ None) → with_number (take k (shorts (n ∷ ns))) say ≡ None
  unfolding front_number
  cut_number k less none =
      let long = length_bytes 2 n in
      let there : length (take k (shorts (n ∷ ns))) ≡ k = length-take-le k (shorts (n ∷ ns)) (omega arith) in
      ⊎_elim (λ short. let few : nat_lt (length (take k (shorts (n ∷ ns)))) 2 ≡ true = grind (arith, nat_tests) in rw few refl)
      (λ enough.
      let many : nat_lt (length (take k (shorts (n ∷ ns)))) 2 ≡ false = grind (arith, nat_tests) in
      let up : k ≡ 2 + (k - 2) = omega (arith, enough) in
      let head : take 2 (take k (shorts (n ∷ ns))) ≡ two = take-take 2 k (shorts (n ∷ ns)) enough ∙ take_at two (shorts ns) 2 long in
      let tail : drop 2 (take k (shorts (n ∷ ns))) ≡ take (k - 2) (shorts ns) =
      ap (λ i. drop 2 (take i (shorts (n ∷ ns)))) up ∙ drop-take 2 (k - 2) (shorts (n ∷ ns)) ∙ ap (take (k - 2)) (drop_at two (shorts ns) 2 long) in
      rw (many, head, tail, two_back n fits) (none (k - 2) (omega (arith, less, enough, long, length-append two (shorts ns)))))
      (cases_lt k 2)

-- ---- on a holder

none_said : {X Y : Type 0} (o : Option X) → option_and_then {U = Y} (λ x. None) o ≡ None
none_said None = refl
none_said (Some x) = refl

-- what a tag with a number says
abbrev said_of : ℕ → ℕ → List ℕ → Option (HolderCall × List ℕ)
said_of tag n rest = option_map (λ call. (call, rest)) (call_with_number tag n)

first_holder_call : (call : HolderCall) (rest : List ℕ) → HolderCallFits call → front_holder_call (bytes_of_holder_call call ++ rest) ≡ Some (call, rest)
first_holder_call Clear rest fits = refl
first_holder_call Count rest fits = refl
first_holder_call (Rank n) rest fits = first_number (said_of 2) n fits.0 [] rest
first_holder_call (At n) rest fits = first_number (said_of 3) n fits.0 [] rest
first_holder_call (Add n) rest fits = first_number (said_of 4) n fits.0 [] rest
first_holder_call (Take n) rest fits = first_number (said_of 5) n fits.0 [] rest

cut_holder_call : (call : HolderCall) (k : ℕ) → HolderCallFits call → k < length (bytes_of_holder_call call) → front_holder_call (take k (bytes_of_holder_call call)) ≡ None
cut_holder_call call zero fits less = refl
cut_holder_call Clear (suc k) fits less = absurd (omega arith)
cut_holder_call Count (suc k) fits less = absurd (omega arith)
cut_holder_call (Rank n) (suc k) fits less = cut_number (said_of 2) n fits.0 [] k (omega arith) (λ j l. absurd (omega arith))
cut_holder_call (At n) (suc k) fits less = cut_number (said_of 3) n fits.0 [] k (omega arith) (λ j l. absurd (omega arith))
cut_holder_call (Add n) (suc k) fits less = cut_number (said_of 4) n fits.0 [] k (omega arith) (λ j l. absurd (omega arith))
cut_holder_call (Take n) (suc k) fits less = cut_number (said_of 5) n fits.0 [] k (omega arith) (λ j l. absurd (omega arith))

no_holder_call : (byte : ℕ) (more : List ℕ) → 6 ≤ byte → front_holder_call (byte ∷ more) ≡ None
no_holder_call byte more above =
    let other : (k : ℕ) → k < 6 → (byte == k) ≡ false = λ k below. grind (arith, nat_tests) in
    rw (other 0 (omega arith), other 1 (omega arith), other 2 (omega arith), other 3 (omega arith), other 4 (omega arith), other 5 (omega arith)) (none_said (front_number more))

pub holder_calls_back : HolderCallsAreReadBack
holder_calls_back calls rest fit ends =
    all_read HolderCallFits bytes_of_holder_call holder_calls
    (λ x behind h. all_behind front_holder_call holder_shorter (bytes_of_holder_call x ++ behind) (x, behind) (first_holder_call x behind h)) calls rest fit
    (all_end front_holder_call rest
    (⊎_elim (λ cut. ap front_holder_call cut.4 ∙ cut_holder_call cut.0 cut.2 cut.1 cut.3) (λ other. ap front_holder_call other.3 ∙ no_holder_call other.0 other.1 other.2) ends))

-- ---- on a docket

first_run : (order rest : List ℕ) → Small order → run_of_numbers (length order) (shorts order ++ rest) ≡ Some (run order, rest)
first_run order rest small =
    let long = length_shorts order in
    let enough : nat_lt (length (shorts order ++ rest)) (2 * length order) ≡ false = let l = length-append (shorts order) rest in grind (arith, nat_tests) in
    rw (enough, take_at (shorts order) rest (2 * length order) long, drop_at (shorts order) rest (2 * length order) long, numbers_there order small) refl

cut_run : (order : List ℕ) (j : ℕ) → j < length (shorts order) → run_of_numbers (length order) (take j (shorts order)) ≡ None
cut_run order j less =
    let long = length_shorts order in
    let there : length (take j (shorts order)) ≡ j = length-take-le j (shorts order) (omega arith) in
    let few : nat_lt (length (take j (shorts order))) (2 * length order) ≡ true = grind (arith, nat_tests) in
    rw few refl

abbrev said_place : ℕ → List ℕ → Option (Call × List ℕ)
said_place operation rest = Some (place operation, rest)

-- what the three numbers of a certify say, from the last one back
abbrev said_latenesses : ℕ → ℕ → ℕ → List ℕ → Option (Call × List ℕ)
said_latenesses ranks instants latenesses rest = Some (certify (blank_buffers ranks instants latenesses), rest)

abbrev said_instants : ℕ → ℕ → List ℕ → Option (Call × List ℕ)
said_instants ranks instants rest = with_number rest (said_latenesses ranks instants)

abbrev said_ranks : ℕ → List ℕ → Option (Call × List ℕ)
said_ranks ranks rest = with_number rest (said_instants ranks)

first_docket_call : (call : Call) (rest : List ℕ) → DocketCallFits call → front_docket_call (bytes_of_docket_call call ++ rest) ≡ Some (call, rest)
first_docket_call (place operation) rest fits = first_number said_place operation fits.1.0 [] rest
first_docket_call (run order) rest fits = first_number run_of_numbers (length order) fits.1.0 order rest ∙ first_run order rest fits.1.1
first_docket_call lift rest fits = refl
first_docket_call (certify b) rest fits =
    let r = length b.ranks in
    let i = length b.instants in
    let t = length b.latenesses in
    first_number said_ranks r fits.1.0 (i ∷ t ∷ []) rest
    ∙ first_number (said_instants r) i fits.1.1.0 (t ∷ []) rest
    ∙ first_number (said_latenesses r i) t fits.1.1.1.0 [] rest
    ∙ ap (λ (x : Buffers). Some (certify x, rest)) (sym fits.0)

cut_docket_call : (call : Call) (k : ℕ) → DocketCallFits call → k < length (bytes_of_docket_call call) → front_docket_call (take k (bytes_of_docket_call call)) ≡ None
cut_docket_call call zero fits less = refl
cut_docket_call (place operation) (suc k) fits less = cut_number said_place operation fits.1.0 [] k (omega arith) (λ j l. absurd (omega arith))
cut_docket_call (run order) (suc k) fits less = cut_number run_of_numbers (length order) fits.1.0 order k (omega arith) (cut_run order)
cut_docket_call lift (suc k) fits less = absurd (omega arith)
cut_docket_call (certify b) (suc k) fits less =
    let r = length b.ranks in
    let i = length b.instants in
    let t = length b.latenesses in
    cut_number said_ranks r fits.1.0 (i ∷ t ∷ []) k (omega arith)
    (λ j l. cut_number (said_instants r) i fits.1.1.0 (t ∷ []) j l (λ h m. cut_number (said_latenesses r i) t fits.1.1.1.0 [] h m (λ g f. absurd (omega arith))))

no_docket_call : (byte : ℕ) (more : List ℕ) → 4 ≤ byte → front_docket_call (byte ∷ more) ≡ None
no_docket_call byte more above =
    let other : (k : ℕ) → k < 4 → (byte == k) ≡ false = λ k below. grind (arith, nat_tests) in
    rw (other 0 (omega arith), other 1 (omega arith), other 2 (omega arith), other 3 (omega arith)) refl

pub docket_calls_back : DocketCallsAreReadBack
docket_calls_back calls rest fit ends =
    all_read DocketCallFits bytes_of_docket_call docket_calls
    (λ x behind h. all_behind front_docket_call docket_shorter (bytes_of_docket_call x ++ behind) (x, behind) (first_docket_call x behind h)) calls rest fit
    (all_end front_docket_call rest
    (⊎_elim (λ cut. ap front_docket_call cut.4 ∙ cut_docket_call cut.0 cut.2 cut.1 cut.3) (λ other. ap front_docket_call other.3 ∙ no_docket_call other.0 other.1 other.2) ends))
