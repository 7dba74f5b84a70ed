-- What is printed of a trace is text, so that a last line of it can be said. Assumes nothing.
use Rattle.std.proofs.Common.{◌≡◌, ℕ, zero, suc, ◌/◌, ◌%◌, ◌<◌, Bool, true, false, cond, ◌&&◌, ◌==◌, nat_lt, List, [], ◌∷◌, ◌++◌, length, codes, decimal, get_or, Some, None, Option, refl, arith}
use Rattle.std.proofs.lemmas.Bool.{and_parts, cond_both}
use Rattle.std.proofs.lemmas.Bool.Decides.{nat_tests}
use Rattle.std.proofs.lemmas.Str.{IsUtf8-nil, IsUtf8-append, IsUtf8-from_ascii}
use Rattle.std.proofs.lemmas.Str.Ascii.{IsAscii-nil, IsAscii-cons}
use Rattle.std.specs.Fmt.{digits, digits_onto, digit_glyph}
use Rattle.std.specs.List.{slice_get}
use Rattle.std.specs.Str.{IsAscii, IsUtf8}
use Rattle.giving.specs.Lists.{SeatRule}
use Rattle.refusal.specs.declared.Refusal.{Refusal}
use Rattle.refusal.specs.declared.Layer.{Layer}
use Rattle.refusal.specs.declared.Layer.TheVariants.{Frame, Record, Item, Sheet, Docket, Holder}
use Rattle.refusal.specs.Wording.{layer_name, refusal_line}
use Rattle.item.specs.declared.item.Item.{Ghosts}
use Rattle.item.specs.Tickets.{ticket_items}
use Rattle.item.specs.Stamps.{stamp_items}
use Rattle.sheet.specs.declared.operation.Method.{Method}
use Rattle.sheet.specs.declared.operation.Method.TheVariants.{Add, Take, FoundEmpty}
use Rattle.sheet.specs.declared.operation.Operation.{Operation}
use Rattle.trace.specs.Reading.{Outcome, reading}
use Rattle.trace.specs.Reading.Outcome.{unread, refused, accepted}
use Rattle.frame.specs.Faults.{frame_refusal}
use Rattle.trace.specs.Faults.{entry_refusal}
use Rattle.calls.specs.declared.fault.DocketFault.{DocketFault}
use Rattle.calls.specs.declared.fault.DocketFault.TheVariants.{StepsMissing}
use Rattle.calls.specs.Faults.{docket_refusal}
use Rattle.calls.specs.declared.certificate.Certificate.{Certificate}
use Rattle.calls.specs.Rules.{Buffers, run_of, missing, figures_of, certificate_of}
use Rattle.examination.specs.Kinds.{seat_of}
use Rattle.examination.specs.Traces.{type_of}
use Rattle.report.specs.Lines.{line_of_step, line_of_late, line_of_certified, up_to, step_at, late_of_method, late_of, late_at}
use Rattle.report.specs.Reports.{Verdict, refused_text, granting, ops, whole, stopping, saying, report_on}

-- ---- words and numbers

digits_text : (k n : ℕ) (acc : List ℕ) → IsAscii acc → IsAscii (digits_onto k 10 false n acc)
digits_text zero n acc h = h
digits_text (suc k) n acc h =
    let low : n % 10 < 10 = omega arith in
    let glyph : digit_glyph false (n % 10) < 128 = grind (arith, nat_tests) in
    let more = IsAscii-cons (digit_glyph false (n % 10)) acc glyph h in
    elim (n / 10 == 0) as (λ b. IsAscii (cond b (digit_glyph false (n % 10) ∷ acc) (digits_onto k 10 false (n / 10) (digit_glyph false (n % 10) ∷ acc)))) [
      | true ↦ more
      | false ↦ digits_text k (n / 10) (digit_glyph false (n % 10) ∷ acc) more
    ]

number_text : (n : ℕ) → IsUtf8 (decimal n)
unfolding digits
number_text n = IsUtf8-from_ascii (decimal n) (digits_text 64 n [] IsAscii-nil)

-- a word of ASCII alone
plain : List ℕ → Bool
plain [] = true
plain (b ∷ bs) = nat_lt b 128 && plain bs

plain_bytes : (bs : List ℕ) → plain bs ≡ true → IsAscii bs
unfolding plain
plain_bytes [] h = IsAscii-nil
plain_bytes (b ∷ bs) h =
    let both = and_parts (nat_lt b 128) (plain bs) h in
    let low : b < 128 = grind (arith, nat_tests) in
    IsAscii-cons b bs low (plain_bytes bs both.1)

word_text : (word : List ℕ) → plain word ≡ true → IsUtf8 word
word_text word h = IsUtf8-from_ascii word (plain_bytes word h)

-- and a number behind it, and what follows
then_text : (word : List ℕ) → plain word ≡ true → (n : ℕ) {rest : List ℕ} → IsUtf8 rest → IsUtf8 (word ++ (decimal n ++ rest))
then_text word h n {rest} r = IsUtf8-append word (decimal n ++ rest) (word_text word h) (IsUtf8-append (decimal n) rest (number_text n) r)

feed : IsUtf8 (codes "\n")
unfolding plain
feed = word_text (codes "\n") refl

-- ---- lines

step_text : (step operation rank at : ℕ) → IsUtf8 (line_of_step step operation rank at)
unfolding line_of_step plain
step_text step operation rank at =
    then_text (codes "step ") refl step (then_text (codes " op ") refl operation (then_text (codes " rank ") refl rank (then_text (codes " at ") refl at feed)))

late_text : (number late : ℕ) → IsUtf8 (line_of_late number late)
unfolding line_of_late plain
late_text number late = then_text (codes "late ") refl number (then_text (codes " ") refl late feed)

certified_text : (k : ℕ) (c : Certificate) → IsUtf8 (line_of_certified k c)
unfolding line_of_certified plain
certified_text k c =
    then_text (codes "certified k ") refl k (then_text (codes " total ") refl c.total (then_text (codes " max ") refl c.largest (then_text (codes " step ") refl c.first feed)))

lines_text : (f : ℕ → List ℕ) (n : ℕ) → ((s : ℕ) → IsUtf8 (f s)) → IsUtf8 (up_to n f)
lines_text f zero h = IsUtf8-nil
lines_text f (suc n) h = IsUtf8-append (up_to n f) (f n) (lines_text f n h) (h n)

method_text : {I : Type 0} (n late : ℕ) (m : Method I) → IsUtf8 (late_of_method n late m)
method_text n late (Add x) = late_text n late
method_text n late (Take x) = IsUtf8-nil
method_text n late FoundEmpty = IsUtf8-nil

operation_text : {I : Type 0} (n late : ℕ) (o : Option (Operation I)) → IsUtf8 (late_of n late o)
operation_text n late None = IsUtf8-nil
operation_text n late (Some o) = method_text n late o.method

name_text : (l : Layer) → IsUtf8 (layer_name l)
unfolding plain
name_text Frame = word_text (codes "frame") refl
name_text Record = word_text (codes "record") refl
name_text Item = word_text (codes "item") refl
name_text Sheet = word_text (codes "sheet") refl
name_text Docket = word_text (codes "docket") refl
name_text Holder = word_text (codes "holder") refl

refusal_text : (r : Refusal) → IsUtf8 (refusal_line r)
unfolding plain
refusal_text r =
    let detail = IsUtf8-append (codes " detail ") (decimal r.detail) (word_text (codes " detail ") refl) (number_text r.detail) in
    IsUtf8-append (codes "refused ") _ (word_text (codes "refused ") refl) (IsUtf8-append (layer_name r.layer) _ (name_text r.layer) (then_text (codes " ") refl r.number (then_text (codes " place ") refl r.place detail)))

refused_is_text : (r : Refusal) → IsUtf8 (refused_text r)
refused_is_text r = IsUtf8-append (refusal_line r) (codes "\n") (refusal_text r) feed

-- ---- what is said of a trace

module _ {I : Type 0} (os : List (Operation I)) (k : ℕ) (p : List ℕ) where
  granting_text : (c : Certificate) (b : Buffers) → IsUtf8 (granting os k p c b).text
  granting_text c b =
      IsUtf8-append (up_to (length p) (step_at p b.ranks b.instants)) _ (lines_text _ (length p) (λ s. step_text s (get_or p s 0) (get_or b.ranks s 0) (get_or b.instants s 0)))
      (IsUtf8-append (up_to (length os) (late_at os b.latenesses)) _ (lines_text _ (length os) (λ n. operation_text n (get_or b.latenesses n 0) (slice_get os n))) (certified_text k c))

module _ {I : Type 0} (t : Ghosts I) (seat : SeatRule) (os : List (Operation I)) (k : ℕ) (p : List ℕ) where
  whole_text : (a : Option ℕ) → IsUtf8 (whole t seat os k p a).text
  whole_text (Some a) = refused_is_text (docket_refusal (StepsMissing (length p) a))
  whole_text None = granting_text os k p (certificate_of seat (ops t seat os k) p) (figures_of seat (ops t seat os k) p)

  stopping_text : (e : Option DocketFault) → IsUtf8 (stopping t seat os k p e).text
  stopping_text (Some e) = refused_is_text (docket_refusal e)
  stopping_text None = whole_text (missing (ops t seat os k) p)

saying_text : {I : Type 0} (t : Ghosts I) (o : Outcome I) → IsUtf8 (saying t o).text
saying_text t (unread e) = refused_is_text (frame_refusal e)
saying_text t (refused os i e) = refused_is_text (entry_refusal i e)
saying_text t (accepted c) = stopping_text t (seat_of c.kind) c.ops c.k c.order (run_of (seat_of c.kind) (ops t (seat_of c.kind) c.ops c.k) c.k [] 0 c.order).stopped

pub report_text : (bs : List ℕ) → IsUtf8 (report_on bs).text
report_text bs =
    cond_both (type_of bs == 1) (saying stamp_items (reading stamp_items 1024 bs)) (saying ticket_items (reading ticket_items 1024 bs)) (λ (v : Verdict). IsUtf8 v.text)
    (λ e. saying_text stamp_items (reading stamp_items 1024 bs)) (λ e. saying_text ticket_items (reading ticket_items 1024 bs))
