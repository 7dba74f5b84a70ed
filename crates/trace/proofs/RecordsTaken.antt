-- Taking the records of a trace in turn.
use Rattle.std.proofs.Common.{◌≡◌, ℕ, zero, suc, ◌+◌, ◌-◌, ◌*◌, ◌<◌, ◌≤◌, List, [], ◌∷◌, ◌++◌, length, get_or, take, drop, Ok, Err, Result, sym, refl, ap, ◌∙◌, subst, append_assoc, append-nil, add-zero, suc-add, mul-zero, zero-add, mul-suc, add-one, arith, length-append, length-drop, length-take, take_at, take-add, drop_at}
use Rattle.std.proofs.lemmas.List.{drop-drop, flat_map_more, length_push}
use Rattle.std.specs.List.{flat_map}
use Rattle.std.specs.Result.{result_map_both}
use Rattle.item.specs.declared.item.Item.{Ghosts}
use Rattle.item.specs.Items.{Lawful}
use Rattle.sheet.specs.declared.operation.Operation.{Operation}
use Rattle.sheet.specs.declared.fault.SheetFault.{SheetFault}
use Rattle.sheet.specs.Entering.{enter_answer}
use Rattle.sheet.proofs.Entries.{enter_number}
use Rattle.record.specs.declared.fault.RecordFault.{RecordFault}
use Rattle.record.specs.Bytes.{Bytes}
use Rattle.record.specs.Records.{decode_record, encode_record}
use Rattle.record.proofs.Digits.{bytes_take, bytes_drop}
use Rattle.record.proofs.Codec.{length_record, record_there, record_back}
use Rattle.trace.specs.declared.fault.EntryFault.{EntryFault}
use Rattle.trace.specs.declared.fault.RefusedRecord.{RefusedRecord}
use Rattle.frame.specs.Layout.{record_count, record_at, records_in}
use Rattle.frame.proofs.RecordPlaces.{length_records, record_in_turn}
use Rattle.trace.specs.Answers.{left_at, left_after}
use Rattle.trace.specs.Reading.{RecordsTaken, if_entered, if_decoded, after_record, operation_taken, after_next, records_taken}
use Rattle.trace.specs.Reading.RecordsTaken.{going, stopped}
use Rattle.trace.proofs.Entries.{Enters, enters_push}

-- as many bytes for each
pub length_joined : {X : Type 0} (f : X → List ℕ) (w : ℕ) → ((x : X) → length (f x) ≡ w) → (xs : List X) → length (flat_map f xs) ≡ w * length xs
length_joined f w h [] = sym (mul-zero w)
length_joined f w h (x ∷ xs) =
    let i = length_joined f w h xs in
    let l = h x in
    let m = mul-suc w (length xs) in
    rw length-append (omega arith)

record_add : (bs : List ℕ) (i : ℕ) → take (24 * suc i) (drop 8 bs) ≡ take (24 * i) (drop 8 bs) ++ record_at i bs
record_add bs i =
    let e : 24 * suc i ≡ 24 * i + 24 = omega arith in
    ap (λ n. take n (drop 8 bs)) e ∙ take-add (24 * i) 24 (drop 8 bs)
    ∙ ap (λ z. take (24 * i) (drop 8 bs) ++ take 24 z) (drop-drop (24 * i) 8 bs)

-- a record's answer, with the place where it is refused
abbrev pub with_place : ℕ → Result (Unit {0}) EntryFault → Result (Unit {0}) RefusedRecord
with_place i = result_map_both (λ u. u) (λ e. record { place = i; fault = e })

left_with_place : {I : Type 0} (i : ℕ) (r : Result (Unit {0}) EntryFault) (os : List (Operation I)) → left_at i r os ≡ left_after (with_place i r) os
left_with_place i (Ok u) os = refl
left_with_place i (Err e) os = refl

module _ {I : Type 0} (t : Ghosts I) (room : ℕ) (bs : List ℕ) where
  -- once stopped, always stopped
  stays : (d i j : ℕ) (os : List (Operation I)) (e : EntryFault) → records_taken t room bs i ≡ stopped os j e → records_taken t room bs (d + i) ≡ stopped os j e
  stays zero i j os e p = ap (records_taken t room bs) (zero-add i) ∙ p
  stays (suc d) i j os e p =
      let q = stays d i j os e p in
      ap (records_taken t room bs) (suc-add d i) ∙ ap (after_next t room bs (d + i)) q

  -- one more record
  taken_next : (i : ℕ) (os : List (Operation I)) (rec : List ℕ) (r : RecordsTaken I) → records_taken t room bs i ≡ going os → rec ≡ record_at i bs →
      after_record os i (operation_taken t room os rec) ≡ r → records_taken t room bs (i + 1) ≡ r
  taken_next i os rec r p q s =
      ap (records_taken t room bs) (add-one i) ∙ ap (after_next t room bs i) p ∙ ap (λ z. after_record os i (operation_taken t room os z)) (sym q) ∙ s

  -- a turn of the loop over the records, on a sheet whose room is as it was
  module _ (i room' : ℕ) (recs : List (List ℕ)) (os fin : List (Operation I)) (r : Result (Unit {0}) EntryFault) (all : recs ≡ records_in bs)
      (inside : i < length recs) (before : records_taken t room bs i ≡ going os) (same : room' ≡ room)
      (step : (j : ℕ) → after_record os j (operation_taken t room' os (get_or recs i [])) ≡ left_at j r fin) where
    counted : i < record_count bs
    counted = let l = ap length all ∙ length_records bs in omega arith

    pub one_taken : records_taken t room bs (i + 1) ≡ left_after (with_place i r) fin
    one_taken =
        let here = ap (λ rs. get_or rs i []) all ∙ record_in_turn i bs [] counted in
        taken_next i os (get_or recs i []) (left_after (with_place i r) fin) before here (ap (λ m. after_record os i (operation_taken t m os (get_or recs i []))) (sym same) ∙ step i ∙ left_with_place i r fin)

    pub one_refused : (e : RefusedRecord) → with_place i r ≡ Err e → records_taken t room bs (record_count bs) ≡ stopped fin e.place e.fault
    one_refused e p =
        let n = record_count bs in
        let k : record_count bs - (i + 1) + (i + 1) ≡ record_count bs = let h = counted in omega arith in
        ap (records_taken t room bs) (sym k) ∙ stays (n - (i + 1)) (i + 1) e.place fin e.fault (one_taken ∙ ap (λ m. left_after m fin) p)

module _ {I : Type 0} (t : Ghosts I) (room : ℕ) where
  entered_back : (os : List (Operation I)) (x op : Operation I) (r : Result ℕ SheetFault) → enter_answer t.number room os x ≡ r → if_entered x r ≡ Ok op →
      (x ≡ op) × (enter_answer t.number room os op ≡ Ok (length os))
  entered_back os x op (Ok at) p e =
      let q : x ≡ op = cc in
      (q, ap (enter_answer t.number room os) (sym q) ∙ enter_number t.number room at os x p)
  entered_back os x op (Err f) p e = absurd cc

  decoded_back : (os : List (Operation I)) (op : Operation I) (r : Result (Operation I) RecordFault) → if_decoded t room os r ≡ Ok op →
      (r ≡ Ok op) × (enter_answer t.number room os op ≡ Ok (length os))
  decoded_back os op (Ok x) e =
      let p = entered_back os x op (enter_answer t.number room os x) refl e in
      (ap (λ o. Ok o) p.0, p.1)
  decoded_back os op (Err f) e = absurd cc

  pub after_back : (os fin : List (Operation I)) (i : ℕ) (r : Result (Operation I) EntryFault) → after_record os i r ≡ going fin →
      (op : Operation I) × (r ≡ Ok op) × (fin ≡ os ++ op ∷ [])
  after_back os fin i (Ok op) e = (op, refl, cc)
  after_back os fin i (Err f) e = absurd cc

module _ {I : Type 0} (t : Ghosts I) (law : Lawful t) (room : ℕ) (bs : List ℕ) where
  -- what was taken are operations that enter in turn, and the bytes are theirs
  pub record AreTaken (n : ℕ) (os : List (Operation I)) : Type 0 where
    pub enters : Enters t room [] os
    pub many : length os ≡ n
    pub bytes : take (24 * n) (drop 8 bs) ≡ flat_map (encode_record t) os

  taken_more : (n : ℕ) (os fin : List (Operation I)) → Bytes bs → 8 + 24 * suc n ≤ length bs → AreTaken n os →
      after_record os n (operation_taken t room os (record_at n bs)) ≡ going fin → AreTaken (suc n) fin
  taken_more n os fin b l k e =
      let a = after_back t room os fin n (operation_taken t room os (record_at n bs)) e in
      let op = a.0 in
      let j = decoded_back t room os op (decode_record t (record_at n bs)) a.1 in
      let byte = bytes_take 24 (drop (8 + 24 * n) bs) (bytes_drop (8 + 24 * n) bs b) in
      let len : length (record_at n bs) ≡ 24 = simp (length-take, length-drop) (omega arith) in
      let r = record_back t law (record_at n bs) op byte len j.0 in
      let q = k.many in
      let p = length_push os op in
      let fin-is = a.2 in
      record {
        enters = subst (Enters t room []) (sym fin-is) (enters_push t room [] os op k.enters r.1 j.1);
        many = ap length fin-is ∙ omega arith;
        bytes =
            record_add bs n ∙ ap (λ z. z ++ record_at n bs) k.bytes ∙ ap (λ z. flat_map (encode_record t) os ++ z) (sym r.0)
            ∙ flat_map_more (encode_record t) [] os op ∙ ap (flat_map (encode_record t)) (sym fin-is);
      }

  next_back : (n : ℕ) (fin : List (Operation I)) (r : RecordsTaken I) → Bytes bs → 8 + 24 * suc n ≤ length bs →
      ((os : List (Operation I)) → r ≡ going os → AreTaken n os) → after_next t room bs n r ≡ going fin → AreTaken (suc n) fin
  next_back n fin (going os) b l before e = taken_more n os fin b l (before os refl) e
  next_back n fin (stopped os j f) b l before e = absurd cc

  pub taken_back : (n : ℕ) (os : List (Operation I)) → Bytes bs → 8 + 24 * n ≤ length bs → records_taken t room bs n ≡ going os → AreTaken n os
  taken_back zero os b l e =
      let p : [] ≡ os = cc in
      record { enters = subst (Enters t room []) p tt; many = ap length (sym p); bytes = ap (flat_map (encode_record t)) p }
  taken_back (suc n) os b l e = next_back n os (records_taken t room bs n) b l (λ before p. taken_back n before b (omega arith) p) e

  -- the bytes of operations that enter in turn are taken as those
  pub taken_there : (head rest : List ℕ) (pre ops : List (Operation I)) → length head ≡ 8 →
      bs ≡ head ++ (flat_map (encode_record t) pre ++ (flat_map (encode_record t) ops ++ rest)) →
      records_taken t room bs (length pre) ≡ going pre → Enters t room pre ops →
      records_taken t room bs (length pre + length ops) ≡ going (pre ++ ops)
  taken_there head rest pre [] l e p f =
      ap (records_taken t room bs) (add-zero (length pre)) ∙ p ∙ ap (λ z. going z) (sym (append-nil pre))
  taken_there head rest pre (op ∷ ops) l e p f =
      let enc = encode_record t in
      let lp = length_joined enc 24 (length_record t) pre in
      let tail = flat_map enc ops ++ rest in
      let e₁ : bs ≡ (head ++ flat_map enc pre) ++ (enc op ++ tail) = e ∙ simp append_assoc in
      let d : drop (8 + 24 * length pre) bs ≡ enc op ++ tail =
      ap (drop (8 + 24 * length pre)) e₁ ∙ drop_at (head ++ flat_map enc pre) (enc op ++ tail) (8 + 24 * length pre) (rw length-append (omega arith)) in
      let r : record_at (length pre) bs ≡ enc op = ap (take 24) d ∙ take_at (enc op) tail 24 (length_record t op) in
      let k : operation_taken t room pre (record_at (length pre) bs) ≡ Ok op =
      ap (λ z. if_decoded t room pre (decode_record t z)) r ∙ ap (if_decoded t room pre) (record_there t law op f.0)
      ∙ ap (if_entered op) f.1 in
      let s : records_taken t room bs (length pre + 1) ≡ going (pre ++ op ∷ []) =
      taken_next t room bs (length pre) pre (record_at (length pre) bs) (going (pre ++ op ∷ [])) p refl (ap (after_record pre (length pre)) k) in
      let lq = length_push pre op in
      let e₂ : bs ≡ head ++ (flat_map enc (pre ++ op ∷ []) ++ (flat_map enc ops ++ rest)) =
      e ∙ ap (λ z. head ++ z) (simp append_assoc) ∙ ap (λ z. head ++ (z ++ tail)) (flat_map_more enc [] pre op) in
      let i = taken_there head rest (pre ++ op ∷ []) ops l e₂ (ap (records_taken t room bs) lq ∙ s) f.2 in
      let n : length pre + length (op ∷ ops) ≡ length (pre ++ op ∷ []) + length ops = omega arith in
      ap (records_taken t room bs) n ∙ i ∙ ap (λ z. going z) (append_assoc pre (op ∷ []) ops)
