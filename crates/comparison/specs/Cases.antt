-- What a case is answered, by its letter and its body: none where it is no such case.
use Rattle.std.specs.Prelude.{ℕ, ◌+◌, ◌*◌, min, cond, List, [], ◌∷◌, ◌++◌, length, take, drop, replicate, slice_index, Some, None, Ok, Err, codes, Option, Result, ◌==◌, nat_lt}
use Rattle.std.specs.List.{flat_map}
use Rattle.std.specs.Option.{option_map, unwrap_or}
use Rattle.std.specs.Result.{result_map_both}
use Rattle.giving.specs.Lists.{SeatRule}
use Rattle.refusal.specs.Wording.{refusal_line}
use Rattle.item.specs.declared.fault.ItemFault.{ItemFault}
use Rattle.item.specs.declared.item.Item.{Ghosts}
use Rattle.item.specs.Tickets.{ticket_items}
use Rattle.item.specs.Stamps.{stamp_items}
use Rattle.item.specs.Lanes.{lane_number, lane_named}
use Rattle.sheet.specs.declared.operation.Operation.{Operation}
use Rattle.record.specs.Bytes.{number_in}
use Rattle.frame.specs.Orders.{numbers_of}
use Rattle.trace.specs.declared.fault.ReadFault.{ReadFault}
use Rattle.trace.specs.Reading.{reading}
use Rattle.trace.specs.Answers.{Said, read_answer, sheet_after}
use Rattle.trace.specs.Faults.{read_refusal}
use Rattle.trace.specs.Writing.{write_answer, memory_after}
use Rattle.holder.specs.Meanings.{Meaning, meaning}
use Rattle.turns.specs.declared.calls.HolderCall.{HolderCall}
use Rattle.turns.specs.Calls.{call_answer, after}
use Rattle.order.specs.declared.operation.Paired.{Paired}
use Rattle.order.specs.Steps.{giving_after}
use Rattle.calls.specs.Calls.{Call, Answer, answers_for, placed_by}
use Rattle.docket.specs.Pairs.{paired_all}
use Rattle.examination.specs.Kinds.{seat_of}
use Rattle.examination.specs.Traces.{by_type}
use Rattle.comparison.specs.Calls.{holder_calls, docket_calls}
use Rattle.comparison.specs.Hashes.{hash_of}
use Rattle.report.specs.Reports.{report_on}
use Rattle.comparison.specs.Words.{words_of_answer, words_of_held, words_of_holder, words_of_item, words_of_reading, words_of_text, words_of_written}

-- what is said of the two parts behind a head, of which the first has so many bytes; none where there are fewer
abbrev pub of_parts : ℕ → ℕ → List ℕ → (List ℕ → List ℕ → List ℕ) → Option (List ℕ)
of_parts head count body say = cond (nat_lt (length body) (head + count)) None (Some (say (take count (drop head body)) (drop count (drop head body))))

-- the refusal of a trace behind the word of the case
abbrev pub unread_line : List ℕ → ReadFault → List ℕ
unread_line word e = word ++ (codes " unread " ++ refusal_line (read_refusal e))

-- what is said where a trace is accepted, or that line
abbrev pub unless_unread : List ℕ → List ℕ → Result Said ReadFault → List ℕ
unless_unread word said (Ok a) = said
unless_unread word said (Err e) = unread_line word e

module _ {I : Type 0} (t : Ghosts I) where
  -- what is said of a trace that is read with room for 1,024 operations, by its operations
  abbrev pub of_trace : List ℕ → (List (Operation I) → List ℕ) → List ℕ → List ℕ
  of_trace word say trace = unless_unread word (say (sheet_after [] (reading t 1024 trace))) (read_answer (reading t 1024 trace))

  -- two traces, read one after another onto one sheet with so much room
  abbrev pub words_of_readings : ℕ → List ℕ → List ℕ → List ℕ
  words_of_readings room one other =
      let first = reading t room one in
      let second = reading t room other in
      codes "read " ++ (words_of_reading t (read_answer first) (sheet_after [] first) ++ (codes "; " ++ words_of_reading t (read_answer second) (sheet_after (sheet_after [] first) second)))

  -- operations that are written with a kind, a k and an order into so many bytes, first all a5
  abbrev pub words_of_writing : ℕ → ℕ → List ℕ → ℕ → List (Operation I) → List ℕ
  words_of_writing kind k order size os = words_of_written (write_answer kind (length os) (length order) size) (hash_of (memory_after t kind k os order (replicate size 165)))

-- the same, by the item type of the first trace
abbrev pub words_of_two_readings : ℕ → List ℕ → List ℕ → List ℕ
words_of_two_readings room one other = by_type one (words_of_readings stamp_items room one other) (words_of_readings ticket_items room one other)

-- a case of reading twice
abbrev pub reading_case : List ℕ → Option (List ℕ)
reading_case body = of_parts 6 (number_in 2 4 body) body (words_of_two_readings (min (number_in 0 2 body) 1024))

-- the operations of a trace, written with a kind, a k and an order, by its item type
abbrev pub words_of_trace_written : ℕ → ℕ → List ℕ → ℕ → List ℕ → List ℕ
words_of_trace_written kind k order size trace =
    by_type trace (of_trace stamp_items (codes "write") (words_of_writing stamp_items kind k order size) trace)
    (of_trace ticket_items (codes "write") (words_of_writing ticket_items kind k order size) trace)

-- a case of writing
abbrev pub writing_case : List ℕ → Option (List ℕ)
writing_case body =
    of_parts 7 (2 * number_in 5 2 body) body (λ order trace.
    words_of_trace_written (slice_index body 0) (number_in 1 2 body) (numbers_of (number_in 5 2 body) order) (number_in 3 2 body) trace)

-- the number of what a number names
abbrev pub number_again : {A : Type 0} → (A → ℕ) → Result A ItemFault → Result ℕ ItemFault
number_again number named = result_map_both number (λ e. e) named

-- the number that a case of an item tells, by which item it is and the first 9 bytes of its body
abbrev pub item_told : ℕ → List ℕ → Option (Result ℕ ItemFault)
item_told which body =
    let number = number_in 1 8 body in
    cond (which == 0) (Some (number_again ticket_items.number (ticket_items.named number)))
    (cond (which == 1) (Some (number_again stamp_items.number (stamp_items.named number))) (cond (which == 2) (Some (number_again lane_number (lane_named (slice_index body 8)))) None))

-- a case of an item
abbrev pub item_case : List ℕ → Option (List ℕ)
item_case body = cond (nat_lt (length body) 9) None (option_map words_of_item (item_told (slice_index body 0) body))

-- what a holder that stands for a meaning answers to calls, each answer behind a space
abbrev pub words_of_calls : SeatRule → Meaning → List HolderCall → List ℕ
words_of_calls seat m [] = []
words_of_calls seat m (call ∷ calls) = codes " " ++ (words_of_holder (call_answer m call) ++ words_of_calls seat (after seat m call) calls)

-- a case of calls on a new holder of a kind
abbrev pub holder_case : List ℕ → Option (List ℕ)
holder_case [] = None
holder_case (kind ∷ calls) = Some (codes "holder" ++ words_of_calls (seat_of kind) (meaning [] 0) (holder_calls calls))

-- what a call on a docket is answered, and what stands between it and the next
abbrev pub answer_and_stop : Answer → List ℕ
answer_and_stop a = words_of_answer a ++ codes "; "

-- what calls on a docket are answered, one after another
abbrev pub words_of_answers : List Answer → List ℕ
words_of_answers answers = flat_map answer_and_stop answers

-- the answers to calls on a new docket, and what its holder then holds
abbrev pub words_of_session : SeatRule → List Paired → ℕ → List Call → List ℕ
words_of_session seat ops k calls =
    codes "docket " ++ (words_of_answers (answers_for seat ops k [] calls) ++ words_of_held (giving_after seat ops (placed_by seat ops k [] calls)))

-- calls on a docket of a trace's operations, by its item type
abbrev pub words_of_docket_calls : SeatRule → ℕ → List ℕ → List Call → List ℕ
words_of_docket_calls seat k trace calls =
    by_type trace (of_trace stamp_items (codes "docket") (λ os. words_of_session seat (paired_all stamp_items.number os) k calls) trace)
    (of_trace ticket_items (codes "docket") (λ os. words_of_session seat (paired_all ticket_items.number os) k calls) trace)

-- the same, of the calls that bytes say
abbrev pub words_of_docket : SeatRule → ℕ → List ℕ → List ℕ → List ℕ
words_of_docket seat k trace calls = words_of_docket_calls seat k trace (docket_calls calls)

-- a case of calls on a docket
abbrev pub docket_case : List ℕ → Option (List ℕ)
docket_case body = of_parts 7 (number_in 3 4 body) body (words_of_docket (seat_of (slice_index body 0)) (number_in 1 2 body))

-- the answer to a case, by its letter: T, R, W, D, H or I
abbrev pub case_told : ℕ → List ℕ → Option (List ℕ)
case_told letter body =
    cond (letter == 84) (Some (words_of_text (report_on body).text))
    (cond (letter == 82) (reading_case body)
    (cond (letter == 87) (writing_case body) (cond (letter == 68) (docket_case body) (cond (letter == 72) (holder_case body) (cond (letter == 73) (item_case body) None)))))

-- what is told of a case, and else the line that it is no case
abbrev pub or_no_case : Option (List ℕ) → List ℕ
or_no_case told = unwrap_or told (codes "no case")

-- the answer to a case
abbrev pub case_answer : ℕ → List ℕ → List ℕ
case_answer letter body = or_no_case (case_told letter body)
