-- The words of an answer.
use Rattle.std.specs.Prelude.{ℕ, List, [], ◌++◌, length, Some, None, Ok, Err, codes, decimal, Option, Result}
use Rattle.std.specs.List.{last_or, flat_map}
use Rattle.std.specs.Option.{unwrap_or}
use Rattle.std.specs.Str.Lines.{lines}
use Rattle.refusal.specs.Wording.{refusal_line}
use Rattle.item.specs.declared.fault.ItemFault.{ItemFault}
use Rattle.item.specs.declared.item.Item.{Ghosts}
use Rattle.item.specs.Faults.{item_refusal}
use Rattle.sheet.specs.declared.operation.Operation.{Operation}
use Rattle.record.specs.Records.{encode_record}
use Rattle.trace.specs.declared.fault.ReadFault.{ReadFault}
use Rattle.trace.specs.declared.fault.WriteFault.{WriteFault}
use Rattle.trace.specs.Answers.{Said}
use Rattle.trace.specs.Faults.{read_refusal, write_refusal}
use Rattle.holder.specs.Faults.{fault_number}
use Rattle.holder.specs.declared.fault.HolderFault.{HolderFault}
use Rattle.calls.specs.declared.fault.DocketFault.{DocketFault}
use Rattle.calls.specs.declared.fault.RefusalCode.{RefusalCode}
use Rattle.calls.specs.declared.certificate.Certificate.{Certificate}
use Rattle.calls.specs.Calls.{Answer, to_place, to_run, to_lift, to_certify}
use Rattle.calls.specs.Faults.{docket_refusal}
use Rattle.comparison.specs.Hashes.{hash_of, bytes_of_shorts, bytes_of_buffers}

-- a number behind its word, or the refusal
unfoldable pub words_of_number : List ℕ → Result ℕ DocketFault → List ℕ
words_of_number word (Ok n) = word ++ (codes " " ++ decimal n)
words_of_number word (Err e) = refusal_line (docket_refusal e)

-- how many steps a run placed, and what stopped it
unfoldable pub words_of_run : ℕ → RefusalCode → List ℕ
words_of_run n c = codes "ran " ++ (decimal n ++ (codes " stopped " ++ (decimal c.number ++ (codes " " ++ (decimal c.place ++ (codes " " ++ decimal c.detail))))))

-- a certificate or the refusal, and the hash of the buffers
unfoldable pub words_of_certify : Result Certificate DocketFault → ℕ → List ℕ
words_of_certify (Ok c) hash = codes "certified " ++ (decimal c.total ++ (codes " " ++ (decimal c.largest ++ (codes " " ++ (decimal c.first ++ (codes " " ++ decimal hash))))))
words_of_certify (Err e) hash = refusal_line (docket_refusal e) ++ (codes " " ++ decimal hash)

-- what a holder answers
unfoldable pub words_of_holder : Result (Option ℕ) HolderFault → List ℕ
words_of_holder (Ok None) = codes "done"
words_of_holder (Ok (Some n)) = decimal n
words_of_holder (Err f) = codes "!" ++ decimal (fault_number f)

-- an item's number, or the refusal
abbrev pub words_of_item : Result ℕ ItemFault → List ℕ
words_of_item (Ok n) = codes "item " ++ decimal n
words_of_item (Err e) = codes "item " ++ refusal_line (item_refusal 0 e)

-- ---- what is printed of a trace

-- the last line of a text, without its line feed; none has no bytes
abbrev pub last_line : List ℕ → List ℕ
last_line text = unwrap_or (last_or None (lines text)) []

-- how long a text is, its hash and its last line
abbrev pub words_of_text : List ℕ → List ℕ
words_of_text text = codes "trace " ++ (decimal (length text) ++ (codes " " ++ (decimal (hash_of text) ++ (codes " " ++ last_line text))))

-- ---- what is read and written

-- what reading answers: kind and k, or the refusal
unfoldable pub words_of_said : Result Said ReadFault → List ℕ
words_of_said (Ok a) = codes "accepted kind " ++ (decimal a.kind ++ (codes " k " ++ decimal a.k))
words_of_said (Err e) = refusal_line (read_refusal e)

-- that a trace was written, or the refusal, and the hash of the memory afterwards
abbrev pub words_of_written : Result (Unit {0}) WriteFault → ℕ → List ℕ
words_of_written (Ok u) hash = codes "write done " ++ decimal hash
words_of_written (Err e) hash = codes "write " ++ (refusal_line (write_refusal e) ++ (codes " " ++ decimal hash))

module _ {I : Type 0} (t : Ghosts I) where
  -- the records of operations, 24 bytes for each
  abbrev pub bytes_of_records : List (Operation I) → List ℕ
  bytes_of_records os = flat_map (encode_record t) os

  -- a reading, and which operations are on the sheet after it
  unfoldable pub words_of_reading : Result Said ReadFault → List (Operation I) → List ℕ
  words_of_reading r os = words_of_said r ++ (codes " entered " ++ (decimal (length os) ++ (codes " " ++ decimal (hash_of (bytes_of_records os)))))

-- ---- calls on a docket

-- what a call on a docket is answered, with the hash of the buffers that a certify leaves
unfoldable pub words_of_answer : Answer → List ℕ
words_of_answer (to_place r) = words_of_number (codes "placed") r
words_of_answer (to_run n stopped) = words_of_run n stopped
words_of_answer (to_lift r) = words_of_number (codes "lifted") r
words_of_answer (to_certify r b) = words_of_certify r (hash_of (bytes_of_buffers b))

-- what a holder still holds, in the order in which it would give it
unfoldable pub words_of_held : List ℕ → List ℕ
words_of_held list = codes "held " ++ (decimal (length list) ++ (codes " " ++ decimal (hash_of (bytes_of_shorts list))))
