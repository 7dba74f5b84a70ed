-- A trace is read the same with records that are enough for its length as with 1,024.
use Rattle.std.proofs.Common.{◌≡◌, ℕ, zero, suc, ◌+◌, ◌*◌, ◌<◌, ◌≤◌, min, List, [], length, Ok, Err, Result, nat_le, refl, sym, ap, ◌∙◌, arith, false}
use Rattle.std.proofs.lemmas.Bool.Decides.{nat_tests}
use Rattle.std.proofs.lemmas.List.{length_push}
use Rattle.item.specs.declared.item.Item.{Ghosts}
use Rattle.sheet.specs.declared.operation.Operation.{Operation}
use Rattle.sheet.specs.Entering.{enter_answer}
use Rattle.record.specs.declared.fault.RecordFault.{RecordFault}
use Rattle.record.specs.Bytes.{Bytes}
use Rattle.record.specs.Records.{decode_record}
use Rattle.frame.specs.declared.fault.FrameFault.{FrameFault}
use Rattle.frame.specs.declared.header.Header.{Header}
use Rattle.frame.specs.Layout.{record_at}
use Rattle.frame.specs.Headers.{frame_of}
use Rattle.frame.proofs.HeaderFields.{frame_back}
use Rattle.trace.specs.Reading.{RecordsTaken, if_entered, if_decoded, operation_taken, after_record, after_next, records_taken, outcome_after, outcome_by_header, reading, Enough}
use Rattle.trace.specs.Reading.RecordsTaken.{going, stopped}
use Rattle.trace.proofs.RecordsTaken.{after_back}

module _ {I : Type 0} (t : Ghosts I) (room other : ℕ) (bs : List ℕ) where
  -- an operation enters the same where there is room for it
  same_entering : (os : List (Operation I)) (op : Operation I) → length os < room → length os < other → enter_answer t.number room os op ≡ enter_answer t.number other os op
  same_entering os op a b =
      let p : nat_le room (length os) ≡ false = grind (arith, nat_tests, a) in
      let q : nat_le other (length os) ≡ false = grind (arith, nat_tests, b) in
      rw (p, q) refl

  same_decoded : (os : List (Operation I)) (r : Result (Operation I) RecordFault) → length os < room → length os < other → if_decoded t room os r ≡ if_decoded t other os r
  same_decoded os (Ok op) a b = ap (if_entered op) (same_entering os op a b)
  same_decoded os (Err e) a b = refl

  -- so many operations are entered by so many records
  count_next : (n : ℕ) (fin : List (Operation I)) (r : RecordsTaken I) → ((os : List (Operation I)) → r ≡ going os → length os ≡ n) →
      after_next t room bs n r ≡ going fin → length fin ≡ suc n
  count_next n fin (going os) before e =
      let a = after_back t room os fin n (operation_taken t room os (record_at n bs)) e in
      let p = before os refl in
      let l = length_push os a.0 in
      ap length a.2 ∙ omega arith
  count_next n fin (stopped os j f) before e = absurd cc

  count_taken : (n : ℕ) (os : List (Operation I)) → records_taken t room bs n ≡ going os → length os ≡ n
  count_taken zero os e = let p : [] ≡ os = cc in ap length (sym p)
  count_taken (suc n) os e = count_next n os (records_taken t room bs n) (count_taken n) e

  same_next : (n : ℕ) (r : RecordsTaken I) → ((os : List (Operation I)) → r ≡ going os → length os ≡ n) → n < room → n < other →
      after_next t room bs n r ≡ after_next t other bs n r
  same_next n (going os) count a b =
      let p = count os refl in
      ap (after_record os n) (same_decoded os (decode_record t (record_at n bs)) (omega arith) (omega arith))
  same_next n (stopped os j e) count a b = refl

  same_taken : (n : ℕ) → n ≤ room → n ≤ other → records_taken t room bs n ≡ records_taken t other bs n
  same_taken zero a b = refl
  same_taken (suc n) a b =
      same_next n (records_taken t room bs n) (count_taken n) (omega arith) (omega arith) ∙ ap (after_next t other bs n) (same_taken n (omega arith) (omega arith))

module _ {I : Type 0} (t : Ghosts I) (n : ℕ) (bs : List ℕ) where
  same_by_header : (r : Result Header FrameFault) → Bytes bs → min (length bs) 26632 ≤ 8 + 26 * n → frame_of t.TYPE bs ≡ r →
      outcome_by_header t (min n 1024) bs r ≡ outcome_by_header t 1024 bs r
  same_by_header (Err e) b l p = refl
  same_by_header (Ok h) b l p =
      let f = frame_back t.TYPE bs h b p in
      let few = f.few in
      let long = f.long in
      ap (outcome_after h bs) (same_taken t (min n 1024) 1024 bs h.count (omega arith) few)

  -- onto a sheet over n records
  pub enough_room : (room : ℕ) → room ≡ min n 1024 → Bytes bs → Enough n bs → reading t room bs ≡ reading t 1024 bs
  enough_room room full b l = ap (λ m. reading t m bs) full ∙ same_by_header (frame_of t.TYPE bs) b l refl
