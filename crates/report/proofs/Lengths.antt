-- How many bytes are said at most.
use Rattle.std.proofs.Common.{ℕ, zero, suc, ◌+◌, ◌*◌, ◌<◌, ◌≤◌, List, ◌++◌, length, codes, decimal, get_or, Some, None, Option, arith, length-append}
use Rattle.std.proofs.lemmas.Fmt.{length-decimal-le}
use Rattle.std.specs.List.{slice_get}
use Rattle.refusal.specs.Wording.{layer_name, refusal_line}
use Rattle.refusal.specs.declared.Refusal.{Refusal}
use Rattle.refusal.specs.declared.Layer.{Layer}
use Rattle.refusal.specs.declared.Layer.TheVariants.{Frame, Record, Item, Sheet, Docket, Holder}
use Rattle.sheet.specs.declared.operation.Method.{Method}
use Rattle.sheet.specs.declared.operation.Method.TheVariants.{Add, Take, FoundEmpty}
use Rattle.sheet.specs.declared.operation.Operation.{Operation}
use Rattle.calls.specs.declared.certificate.Certificate.{Certificate}
use Rattle.report.specs.Lines.{line_of_step, line_of_late, line_of_certified, up_to, step_at, lines_of_steps, late_of_method, late_of, late_at, lines_of_lates}

-- a number of 64 bits has 20 digits at most
digits : (n : ℕ) → n < 18446744073709551616 → length (decimal n) ≤ 20
digits n h = length-decimal-le 20 n (omega arith) (omega (arith, h)) (omega (arith, h))

then_short : (a b : List ℕ) (m n : ℕ) → length a ≤ m → length b ≤ n → length (a ++ b) ≤ m + n
then_short a b m n h l = omega (arith, length-append a b, h, l)

-- a word with a number behind it, and what follows
number_short : (word : List ℕ) (n : ℕ) (rest : List ℕ) (m : ℕ) → n < 18446744073709551616 → length rest ≤ m → length (word ++ (decimal n ++ rest)) ≤ length word + 20 + m
number_short word n rest m h l = omega (arith, length-append word (decimal n ++ rest), length-append (decimal n) rest, digits n h, l)

pub step_short : (step operation rank at : ℕ) → step < 18446744073709551616 → operation < 18446744073709551616 → rank < 18446744073709551616 → at < 18446744073709551616 → length (line_of_step step operation rank at) ≤ 100
unfolding line_of_step
step_short step operation rank at a b c d =
    number_short (codes "step ") step _ 75 a (number_short (codes " op ") operation _ 51 b (number_short (codes " rank ") rank _ 25 c (number_short (codes " at ") at (codes "\n") 1 d (omega arith))))

pub late_short : (number late : ℕ) → number < 18446744073709551616 → late < 18446744073709551616 → length (line_of_late number late) ≤ 47
unfolding line_of_late
late_short number late a b = number_short (codes "late ") number _ 22 a (number_short (codes " ") late (codes "\n") 1 b (omega arith))

pub certified_short : (k : ℕ) (c : Certificate) → k < 18446744073709551616 → c.total < 18446744073709551616 → c.largest < 18446744073709551616 → c.first < 18446744073709551616 → length (line_of_certified k c) ≤ 111
unfolding line_of_certified
certified_short k c a t l f =
    number_short (codes "certified k ") k _ 79 a (number_short (codes " total ") c.total _ 52 t (number_short (codes " max ") c.largest _ 27 l (number_short (codes " step ") c.first (codes "\n") 1 f (omega arith))))

-- so many lines of so many bytes each
lines_short : (f : ℕ → List ℕ) (b n : ℕ) → ((s : ℕ) → s < n → length (f s) ≤ b) → length (up_to n f) ≤ b * n
lines_short f b zero h = omega arith
lines_short f b (suc n) h = omega (arith, length-append (up_to n f) (f n), lines_short f b n (λ s l. h s (omega (arith, l))), h n (omega arith))

pub steps_short : (p r t : List ℕ) → length p ≤ 1024 → ((i : ℕ) → get_or p i 0 < 18446744073709551616) → ((i : ℕ) → get_or r i 0 < 18446744073709551616) → ((i : ℕ) → get_or t i 0 < 18446744073709551616) →
    length (lines_of_steps p r t) ≤ 102400
steps_short p r t few a b c =
    let h = lines_short (step_at p r t) 100 (length p) (λ s l. step_short s (get_or p s 0) (get_or r s 0) (get_or t s 0) (omega (arith, l, few)) (a s) (b s) (c s)) in
    omega (arith, h, few)

method_short : {I : Type 0} (number late : ℕ) (m : Method I) → number < 18446744073709551616 → late < 18446744073709551616 → length (late_of_method number late m) ≤ 47
method_short number late (Add x) a b = late_short number late a b
method_short number late (Take x) a b = omega arith
method_short number late FoundEmpty a b = omega arith

operation_short : {I : Type 0} (number late : ℕ) (o : Option (Operation I)) → number < 18446744073709551616 → late < 18446744073709551616 → length (late_of number late o) ≤ 47
operation_short number late None a b = omega arith
operation_short number late (Some o) a b = method_short number late o.method a b

pub lates_short : {I : Type 0} (os : List (Operation I)) (l : List ℕ) → length os ≤ 1024 → ((i : ℕ) → get_or l i 0 < 18446744073709551616) → length (lines_of_lates os l) ≤ 48128
lates_short os l few a =
    let h = lines_short (late_at os l) 47 (length os) (λ s m. operation_short s (get_or l s 0) (slice_get os s) (omega (arith, m, few)) (a s)) in
    omega (arith, h, few)

name_short : (l : Layer) → length (layer_name l) ≤ 6
name_short Frame = omega arith
name_short Record = omega arith
name_short Item = omega arith
name_short Sheet = omega arith
name_short Docket = omega arith
name_short Holder = omega arith

pub refusal_short : (r : Refusal) → r.number < 18446744073709551616 → r.place < 18446744073709551616 → r.detail < 18446744073709551616 → length (refusal_line r) ≤ 90
refusal_short r a b c =
    let detail = then_short (codes " detail ") (decimal r.detail) 8 20 (omega arith) (digits r.detail c) in
    let behind = number_short (codes " ") r.number _ 55 a (number_short (codes " place ") r.place _ 28 b detail) in
    let name = then_short (layer_name r.layer) _ 6 76 (name_short r.layer) behind in
    then_short (codes "refused ") _ 8 82 (omega arith) name
