-- A record: 2 bits of method, 6 spare bits, 40 of item, 16 of thread, 64 of start and 64 of end, the highest first.
use Rattle.std.specs.Prelude.{ℕ, ◌+◌, ◌*◌, ◌/◌, ◌%◌, ◌^◌, ◌<◌, cond, List, ◌++◌, Ok, Err, Result, ◌==◌, nat_lt}
use Rattle.item.specs.declared.fault.ItemFault.{ItemFault}
use Rattle.item.specs.declared.item.Item.{Ghosts}
use Rattle.sheet.specs.declared.operation.Method.{Method}
use Rattle.sheet.specs.declared.operation.Method.TheVariants.{Add, Take, FoundEmpty}
use Rattle.sheet.specs.declared.operation.Operation.{Operation}
use Rattle.record.specs.declared.fault.RecordFault.{RecordFault}
use Rattle.record.specs.declared.fault.RecordFault.TheVariants.{NoSuchMethod, SpareBit, Item, ItemOnFoundEmpty}
use Rattle.record.specs.Bytes.{bytes_of_number, number_in}

module _ {I : Type 0} where
  -- a method with the item that was named, or the item's fault
  abbrev pub with_item : (I → Method I) → Result I ItemFault → Result (Method I) RecordFault
  with_item method (Ok x) = Ok (method x)
  with_item method (Err e) = Err (Item e)

  -- a method with its thread and its times, or the record's fault
  abbrev pub with_times : ℕ → ℕ → ℕ → Result (Method I) RecordFault → Result (Operation I) RecordFault
  with_times thread start end (Ok m) = Ok (record { method = m; thread = thread; start = start; end = end })
  with_times thread start end (Err f) = Err f

module _ {I : Type 0} (t : Ghosts I) where
  -- the method of a method number and an item field
  abbrev pub method_answer : ℕ → ℕ → Result (Method I) RecordFault
  method_answer m field =
      cond (m == 0) (with_item (λ x. Add x) (t.named field))
      (cond (m == 1) (with_item (λ x. Take x) (t.named field)) (cond (field == 0) (Ok FoundEmpty) (Err ItemOnFoundEmpty)))

  -- the method of the first 48 bits
  abbrev pub method_said : ℕ → Result (Method I) RecordFault
  method_said word =
      cond (nat_lt 2 (word / 2 ^ 46)) (Err NoSuchMethod) (cond (nat_lt 0 (word / 2 ^ 40 % 64)) (Err SpareBit) (method_answer (word / 2 ^ 46) (word % 2 ^ 40)))

  -- the operation of the first 48 bits, the thread and the times
  abbrev pub operation_of : ℕ → ℕ → ℕ → ℕ → Result (Operation I) RecordFault
  operation_of word thread start end = with_times thread start end (method_said word)

  -- what the 24 bytes of a record say
  abbrev pub decode_record : List ℕ → Result (Operation I) RecordFault
  decode_record bs = operation_of (number_in 0 6 bs) (number_in 6 2 bs) (number_in 8 8 bs) (number_in 16 8 bs)

  -- the first 48 bits of a method
  abbrev pub word_of_method : Method I → ℕ
  word_of_method (Add x) = t.number x
  word_of_method (Take x) = 2 ^ 46 + t.number x
  word_of_method FoundEmpty = 2 * 2 ^ 46

  -- the 24 bytes that say an operation
  abbrev pub encode_record : Operation I → List ℕ
  encode_record op = bytes_of_number 6 (word_of_method op.method) ++ bytes_of_number 2 op.thread ++ bytes_of_number 8 op.start ++ bytes_of_number 8 op.end

  -- the item of a method fits
  abbrev pub FitMethod : Method I → Type 0
  FitMethod (Add x) = t.fit x
  FitMethod (Take x) = t.fit x
  FitMethod FoundEmpty = Unit {0}

  -- the fields of an operation fit their widths, as those of every operation in memory do
  pub record Fit (op : Operation I) : Type 0 where
    pub method : FitMethod op.method
    pub thread : op.thread < 2 ^ 16
    pub start : op.start < 2 ^ 64
    pub end : op.end < 2 ^ 64
