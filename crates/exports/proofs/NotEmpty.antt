-- No text is empty that is printed of a trace, or that answers a case.
use Rattle.std.proofs.Common.{ℕ, ◌+◌, ◌*◌, ◌<◌, min, Bool, cond, List, [], ◌∷◌, ◌++◌, length, take, drop, slice_index, Some, None, Ok, Err, Option, Result, IfSome, codes, arith, length-append, ◌==◌, nat_lt}
use Rattle.std.proofs.lemmas.Bool.{cond_both}
use Rattle.std.specs.Option.{option_map, unwrap_or}
use Rattle.record.specs.Bytes.{number_in}
use Rattle.giving.specs.Lists.{SeatRule}
use Rattle.refusal.specs.declared.Refusal.{Refusal}
use Rattle.refusal.specs.Wording.{refusal_line}
use Rattle.item.specs.declared.fault.ItemFault.{ItemFault}
use Rattle.item.specs.declared.item.Item.{Ghosts}
use Rattle.item.specs.Tickets.{ticket_items}
use Rattle.item.specs.Stamps.{stamp_items}
use Rattle.sheet.specs.declared.operation.Operation.{Operation}
use Rattle.frame.specs.Faults.{frame_refusal}
use Rattle.frame.specs.Orders.{numbers_of}
use Rattle.trace.specs.declared.fault.ReadFault.{ReadFault}
use Rattle.trace.specs.declared.fault.WriteFault.{WriteFault}
use Rattle.trace.specs.Answers.{Said, read_answer}
use Rattle.trace.specs.Faults.{entry_refusal, read_refusal}
use Rattle.trace.specs.Reading.{Outcome, reading}
use Rattle.trace.specs.Reading.Outcome.{unread, refused, accepted}
use Rattle.calls.specs.declared.certificate.Certificate.{Certificate}
use Rattle.calls.specs.declared.fault.DocketFault.{DocketFault}
use Rattle.calls.specs.declared.fault.DocketFault.TheVariants.{StepsMissing}
use Rattle.calls.specs.Faults.{docket_refusal}
use Rattle.calls.specs.Rules.{run_of, missing, figures_of, certificate_of}
use Rattle.docket.specs.Pairs.{paired_all}
use Rattle.examination.specs.Kinds.{seat_of}
use Rattle.examination.specs.Traces.{type_of, by_type}
use Rattle.report.specs.Lines.{lines_of_steps, lines_of_lates, line_of_certified}
use Rattle.report.specs.Reports.{Verdict, refusing, whole, stopping, saying, report_on}
use Rattle.comparison.specs.Calls.{docket_calls}
use Rattle.comparison.specs.Cases.{of_parts, unless_unread, of_trace, words_of_readings, words_of_two_readings, words_of_writing, words_of_trace_written, item_told, item_case, holder_case, words_of_session, words_of_docket, case_told, case_answer}
use Rattle.comparison.specs.Words.{words_of_item, words_of_written}

abbrev NotEmpty : List ℕ → Type 0
NotEmpty text = 0 < length text

behind : (before text : List ℕ) → NotEmpty text → NotEmpty (before ++ text)
behind before text h = omega (arith, length-append before text, h)

-- ---- what is printed of a trace

refusing_not_empty : (r : Refusal) → NotEmpty (refusing r).text
refusing_not_empty r = behind (refusal_line r) (codes "\n") (omega arith)

certified_not_empty : (k : ℕ) (c : Certificate) → NotEmpty (line_of_certified k c)
unfolding line_of_certified
certified_not_empty k c = omega arith

module _ {I : Type 0} (t : Ghosts I) where
  module _ (seat : SeatRule) (os : List (Operation I)) (k : ℕ) (p : List ℕ) where
    whole_not_empty : (m : Option ℕ) → NotEmpty (whole t seat os k p m).text
    whole_not_empty (Some a) = refusing_not_empty (docket_refusal (StepsMissing (length p) a))
    whole_not_empty None =
        let ops = paired_all t.number os in
        let b = figures_of seat ops p in
        behind (lines_of_steps p b.ranks b.instants) _ (behind (lines_of_lates os b.latenesses) (line_of_certified k (certificate_of seat ops p)) (certified_not_empty k (certificate_of seat ops p)))

    stopping_not_empty : (s : Option DocketFault) → NotEmpty (stopping t seat os k p s).text
    stopping_not_empty (Some e) = refusing_not_empty (docket_refusal e)
    stopping_not_empty None = whole_not_empty (missing (paired_all t.number os) p)

  saying_not_empty : (o : Outcome I) → NotEmpty (saying t o).text
  saying_not_empty (unread e) = refusing_not_empty (frame_refusal e)
  saying_not_empty (refused os i e) = refusing_not_empty (entry_refusal i e)
  saying_not_empty (accepted c) = stopping_not_empty (seat_of c.kind) c.ops c.k c.order (run_of (seat_of c.kind) (paired_all t.number c.ops) c.k [] 0 c.order).stopped

pub report_not_empty : (bs : List ℕ) → NotEmpty (report_on bs).text
report_not_empty bs =
    let stamps = saying stamp_items (reading stamp_items 1024 bs) in
    let tickets = saying ticket_items (reading ticket_items 1024 bs) in
    cond_both (type_of bs == 1) stamps tickets (λ (v : Verdict). NotEmpty v.text) (λ e. saying_not_empty stamp_items (reading stamp_items 1024 bs)) (λ e. saying_not_empty ticket_items (reading ticket_items 1024 bs))

-- ---- what answers a case

abbrev Told : Option (List ℕ) → Type 0
Told o = IfSome o NotEmpty

of_parts_not_empty : (head count : ℕ) (body : List ℕ) (say : List ℕ → List ℕ → List ℕ) → ((a b : List ℕ) → NotEmpty (say a b)) → Told (of_parts head count body say)
of_parts_not_empty head count body say h =
    cond_both (nat_lt (length body) (head + count)) None (Some (say (take count (drop head body)) (drop count (drop head body)))) Told (λ e. tt) (λ e. h _ _)

by_type_not_empty : (bs a b : List ℕ) → NotEmpty a → NotEmpty b → NotEmpty (by_type bs a b)
by_type_not_empty bs a b x y = cond_both (type_of bs == 1) a b NotEmpty (λ e. x) (λ e. y)

unread_not_empty : (word said : List ℕ) (r : Result Said ReadFault) → NotEmpty word → NotEmpty said → NotEmpty (unless_unread word said r)
unread_not_empty word said (Ok a) w s = s
unread_not_empty word said (Err e) w s = let rest = codes " unread " ++ refusal_line (read_refusal e) in omega (arith, length-append word rest, w)

reading_not_empty : (room : ℕ) (one other : List ℕ) → NotEmpty (words_of_two_readings room one other)
reading_not_empty room one other = by_type_not_empty one (words_of_readings stamp_items room one other) (words_of_readings ticket_items room one other) (omega arith) (omega arith)

written_not_empty : (r : Result (Unit {0}) WriteFault) (hash : ℕ) → NotEmpty (words_of_written r hash)
written_not_empty (Ok u) hash = omega arith
written_not_empty (Err e) hash = omega arith

writing_not_empty : (kind k : ℕ) (order : List ℕ) (size : ℕ) (trace : List ℕ) → NotEmpty (words_of_trace_written kind k order size trace)
writing_not_empty kind k order size trace =
    by_type_not_empty trace (of_trace stamp_items (codes "write") (words_of_writing stamp_items kind k order size) trace)
    (of_trace ticket_items (codes "write") (words_of_writing ticket_items kind k order size) trace)
    (unread_not_empty (codes "write") _ (read_answer (reading stamp_items 1024 trace)) (omega arith) (written_not_empty _ _))
    (unread_not_empty (codes "write") _ (read_answer (reading ticket_items 1024 trace)) (omega arith) (written_not_empty _ _))

docket_not_empty : (seat : SeatRule) (k : ℕ) (trace calls : List ℕ) → NotEmpty (words_of_docket seat k trace calls)
docket_not_empty seat k trace calls =
    by_type_not_empty trace (of_trace stamp_items (codes "docket") (λ os. words_of_session seat (paired_all stamp_items.number os) k (docket_calls calls)) trace)
    (of_trace ticket_items (codes "docket") (λ os. words_of_session seat (paired_all ticket_items.number os) k (docket_calls calls)) trace)
    (unread_not_empty (codes "docket") _ (read_answer (reading stamp_items 1024 trace)) (omega arith) (omega arith))
    (unread_not_empty (codes "docket") _ (read_answer (reading ticket_items 1024 trace)) (omega arith) (omega arith))

holder_not_empty : (body : List ℕ) → Told (holder_case body)
holder_not_empty [] = tt
holder_not_empty (kind ∷ calls) = omega arith

item_words_not_empty : (r : Result ℕ ItemFault) → NotEmpty (words_of_item r)
item_words_not_empty (Ok n) = omega arith
item_words_not_empty (Err e) = omega arith

told_item_not_empty : (o : Option (Result ℕ ItemFault)) → Told (option_map words_of_item o)
told_item_not_empty None = tt
told_item_not_empty (Some r) = item_words_not_empty r

item_not_empty : (body : List ℕ) → Told (item_case body)
item_not_empty body =
    cond_both (nat_lt (length body) 9) None (option_map words_of_item (item_told (slice_index body 0) body)) Told (λ e. tt) (λ e. told_item_not_empty (item_told (slice_index body 0) body))

-- one of two, each of which is not empty
one_of : (b : Bool) (x y : Option (List ℕ)) → Told x → Told y → Told (cond b x y)
one_of b x y p q = cond_both b x y Told (λ e. p) (λ e. q)

told_not_empty : (letter : ℕ) (body : List ℕ) → Told (case_told letter body)
told_not_empty letter body =
    one_of (letter == 84) _ _ (omega arith)
    (one_of (letter == 82) _ _ (of_parts_not_empty 6 (number_in 2 4 body) body _ (reading_not_empty (min (number_in 0 2 body) 1024)))
    (one_of (letter == 87) _ _
    (of_parts_not_empty 7 (2 * number_in 5 2 body) body _ (λ order trace. writing_not_empty (slice_index body 0) (number_in 1 2 body) (numbers_of (number_in 5 2 body) order) (number_in 3 2 body) trace))
    (one_of (letter == 68) _ _ (of_parts_not_empty 7 (number_in 3 4 body) body _ (docket_not_empty (seat_of (slice_index body 0)) (number_in 1 2 body)))
    (one_of (letter == 72) _ _ (holder_not_empty body) (one_of (letter == 73) _ _ (item_not_empty body) tt)))))

unwrap_not_empty : (o : Option (List ℕ)) → Told o → NotEmpty (unwrap_or o (codes "no case"))
unwrap_not_empty None h = omega arith
unwrap_not_empty (Some text) h = h

pub answer_not_empty : (letter : ℕ) (body : List ℕ) → NotEmpty (case_answer letter body)
answer_not_empty letter body = unwrap_not_empty (case_told letter body) (told_not_empty letter body)
