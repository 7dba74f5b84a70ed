-- What is answered, and what a sheet then holds.
use Rattle.std.specs.Prelude.{ℕ, List, Ok, Err, Result}
use Rattle.sheet.specs.declared.operation.Operation.{Operation}
use Rattle.trace.specs.declared.fault.EntryFault.{EntryFault}
use Rattle.trace.specs.declared.fault.RefusedRecord.{RefusedRecord}
use Rattle.trace.specs.declared.fault.ReadFault.{ReadFault}
use Rattle.trace.specs.declared.fault.ReadFault.TheVariants.{Frame, Entry}
use Rattle.trace.specs.declared.read.Accepted.{Accepted}
use Rattle.frame.specs.Kinds.{kind_number}
use Rattle.frame.specs.Orders.{order_of}
use Rattle.trace.specs.Contents.{Contents, contents}
use Rattle.trace.specs.Reading.{RecordsTaken, Outcome}
use Rattle.trace.specs.Reading.RecordsTaken.{going, stopped}
use Rattle.trace.specs.Reading.Outcome.{unread, refused, accepted}

-- kind, k and order
pub record Said : Type 0 where
  pub kind : ℕ
  pub k : ℕ
  pub order : List ℕ

module _ {I : Type 0} where
  -- what contents say besides the operations
  abbrev pub saying_of : Contents I → Said
  saying_of c = record { kind = c.kind; k = c.k; order = c.order }

  -- what reading answers
  abbrev pub read_answer : Outcome I → Result Said ReadFault
  read_answer (unread e) = Err (Frame e)
  read_answer (refused os i e) = Err (Entry (record { place = i; fault = e }))
  read_answer (accepted c) = Ok (saying_of c)

  -- what the sheet then holds, if it held old
  abbrev pub sheet_after : List (Operation I) → Outcome I → List (Operation I)
  sheet_after old (unread e) = old
  sheet_after old (refused os i e) = os
  sheet_after old (accepted c) = c.ops

  -- the run that an answer for one record, or for all, and the operations then entered stand for
  abbrev pub left_at : ℕ → Result (Unit {0}) EntryFault → List (Operation I) → RecordsTaken I
  left_at i (Ok u) os = going os
  left_at i (Err e) os = stopped os i e

  abbrev pub left_after : Result (Unit {0}) RefusedRecord → List (Operation I) → RecordsTaken I
  left_after (Ok u) os = going os
  left_after (Err r) os = stopped os r.place r.fault

-- what an accepted trace says besides its operations
abbrev pub said : Accepted → Said
said a = record { kind = kind_number a.kind; k = a.k; order = order_of a.order }

-- an answer as the values that it says
abbrev pub shown : {E : Type 0} → Result Accepted E → Result Said E
shown (Ok a) = Ok (said a)
shown (Err e) = Err e

-- the contents of an accepted trace whose operations are entered
abbrev pub contents_of : {I : Type 0} → Accepted → List (Operation I) → Contents I
contents_of a ops = contents (kind_number a.kind) a.k ops (order_of a.order)
