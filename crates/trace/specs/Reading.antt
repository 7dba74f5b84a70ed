-- What reading a trace comes to.
use Rattle.std.specs.Prelude.{ℕ, zero, suc, ◌+◌, ◌*◌, ◌≤◌, min, List, [], ◌∷◌, ◌++◌, length, drop, Ok, Err, Result}
use Rattle.item.specs.declared.item.Item.{Ghosts}
use Rattle.sheet.specs.declared.operation.Operation.{Operation}
use Rattle.sheet.specs.declared.fault.SheetFault.{SheetFault}
use Rattle.sheet.specs.Entering.{enter_answer}
use Rattle.record.specs.declared.fault.RecordFault.{RecordFault}
use Rattle.record.specs.Records.{decode_record}
use Rattle.frame.specs.declared.fault.FrameFault.{FrameFault}
use Rattle.trace.specs.declared.fault.EntryFault.{EntryFault}
use Rattle.trace.specs.declared.fault.EntryFault.TheVariants.{Record, Sheet}
use Rattle.frame.specs.declared.header.Header.{Header}
use Rattle.frame.specs.Layout.{record_at}
use Rattle.frame.specs.Headers.{frame_of}
use Rattle.frame.specs.Kinds.{kind_number}
use Rattle.frame.specs.Orders.{numbers_of}
use Rattle.trace.specs.Contents.{Contents, contents}

-- how far the records are taken: all so far, with the operations entered, or stopped at a place, with those entered before
pub data RecordsTaken (I : Type 0) : Type 0 where
  going : List (Operation I) → RecordsTaken I
  stopped : List (Operation I) → ℕ → EntryFault → RecordsTaken I

-- a header refused; a record refused, with the operations entered before and its place; or the contents
pub data Outcome (I : Type 0) : Type 0 where
  unread : FrameFault → Outcome I
  refused : List (Operation I) → ℕ → EntryFault → Outcome I
  accepted : Contents I → Outcome I

-- so many records are enough for every trace of that length: an operation takes 26 bytes, behind the 8 of the header, and a header
-- allows at most 1,024 operations
abbrev pub Enough : ℕ → List ℕ → Type 0
Enough records bs = min (length bs) 26632 ≤ 8 + 26 * records

module _ {I : Type 0} where
  -- the operation, if the sheet took it
  abbrev pub if_entered : Operation I → Result ℕ SheetFault → Result (Operation I) EntryFault
  if_entered op (Ok number) = Ok op
  if_entered op (Err e) = Err (Sheet e)

  -- what is taken with record i, by its operation or its fault, where os were entered before it
  abbrev pub after_record : List (Operation I) → ℕ → Result (Operation I) EntryFault → RecordsTaken I
  after_record os i (Ok op) = going (os ++ op ∷ [])
  after_record os i (Err e) = stopped os i e

  -- what reading comes to once the records are taken, with the order that stands behind them
  abbrev pub outcome_after : Header → List ℕ → RecordsTaken I → Outcome I
  outcome_after h bs (going os) = accepted (contents (kind_number h.kind) h.k os (numbers_of h.count (drop (8 + 24 * h.count) bs)))
  outcome_after h bs (stopped os i e) = refused os i e

module _ {I : Type 0} (t : Ghosts I) (room : ℕ) where
  -- the operation that was decoded, if a sheet that holds os takes it
  abbrev pub if_decoded : List (Operation I) → Result (Operation I) RecordFault → Result (Operation I) EntryFault
  if_decoded os (Ok op) = if_entered op (enter_answer t.number room os op)
  if_decoded os (Err e) = Err (Record e)

  -- the operation of a record, if a sheet that holds os takes it
  abbrev pub operation_taken : List (Operation I) → List ℕ → Result (Operation I) EntryFault
  operation_taken os rec = if_decoded os (decode_record t rec)

  -- what is taken with record i, after the records before it
  abbrev pub after_next : List ℕ → ℕ → RecordsTaken I → RecordsTaken I
  after_next bs i (going os) = after_record os i (operation_taken os (record_at i bs))
  after_next bs i (stopped os j e) = stopped os j e

  -- taking the first n records of a trace in turn
  abbrev pub records_taken : List ℕ → ℕ → RecordsTaken I
  records_taken bs zero = going []
  records_taken bs (suc i) = after_next bs i (records_taken bs i)

  -- what reading comes to by what the header says
  abbrev pub outcome_by_header : List ℕ → Result Header FrameFault → Outcome I
  outcome_by_header bs (Err e) = unread e
  outcome_by_header bs (Ok h) = outcome_after h bs (records_taken bs h.count)

  -- reading a trace onto a sheet with that much room
  abbrev pub reading : List ℕ → Outcome I
  reading bs = outcome_by_header bs (frame_of t.TYPE bs)
