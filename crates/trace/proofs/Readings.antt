-- Reading accepts exactly the bytes of sound contents.
use Rattle.std.proofs.Common.{◌≡◌, ℕ, ◌+◌, ◌*◌, List, [], ◌++◌, length, take, drop, IfOk, Ok, Err, Result, sym, refl, ap, ◌∙◌, subst, append_assoc, zero-add, arith, length-append, length-drop, drop_at}
use Rattle.std.proofs.lemmas.List.{drop-drop, take-append-drop}
use Rattle.std.specs.List.{flat_map}
use Rattle.item.specs.declared.item.Item.{Ghosts}
use Rattle.item.specs.Items.{Lawful}
use Rattle.sheet.specs.declared.operation.Operation.{Operation}
use Rattle.record.specs.Bytes.{bytes_of_number, Bytes}
use Rattle.record.specs.Records.{encode_record}
use Rattle.record.proofs.Digits.{length_bytes, bytes_drop}
use Rattle.record.proofs.Codec.{length_record}
use Rattle.frame.specs.declared.fault.FrameFault.{FrameFault}
use Rattle.frame.specs.declared.header.Header.{Header}
use Rattle.frame.specs.Headers.{frame_of, bytes_of_header}
use Rattle.frame.specs.Kinds.{kind_number}
use Rattle.frame.specs.Orders.{numbers_of}
use Rattle.trace.specs.Contents.{Contents, contents, encode, Sound}
use Rattle.trace.specs.declared.fault.ReadFault.{ReadFault}
use Rattle.trace.specs.declared.read.Accepted.{Accepted}
use Rattle.trace.specs.Answers.{Said, said, saying_of, shown, read_answer, sheet_after, contents_of}
use Rattle.trace.specs.Reading.{RecordsTaken, Outcome, records_taken, outcome_after, outcome_by_header, reading}
use Rattle.trace.specs.Reading.RecordsTaken.{going, stopped}
use Rattle.trace.specs.Reading.Outcome.{unread, refused, accepted}
use Rattle.frame.proofs.KindNumbers.{kind_of, number_small}
use Rattle.frame.proofs.HeaderFields.{length_header, frame_there, frame_back}
use Rattle.frame.proofs.OrderNumbers.{numbers_there, numbers_back, length_numbers}
use Rattle.trace.proofs.Entries.{fits_of, consistent_of, place_of, enters_of}
use Rattle.trace.proofs.RecordsTaken.{length_joined, taken_back, taken_there}

pub length_encode : {I : Type 0} (t : Ghosts I) (c : Contents I) → length c.order ≡ length c.ops → length (encode t c) ≡ 8 + 26 * length c.ops
length_encode t c e =
    let a = length_header t.TYPE c.kind (length c.ops) c.k in
    let r = length_joined (encode_record t) 24 (length_record t) c.ops in
    let o = length_joined (bytes_of_number 2) 2 (length_bytes 2) c.order in
    rw (length-append, length-append) (omega arith)

module _ {I : Type 0} (t : Ghosts I) (law : Lawful t) (room : ℕ) (bs : List ℕ) where
  -- the bytes are those of sound contents
  pub record SoundBytes (c : Contents I) : Type 0 where
    pub sound : Sound t room c
    pub bytes : bs ≡ encode t c

  going_back : (h : Header) (os : List (Operation I)) → Bytes bs → frame_of t.TYPE bs ≡ Ok h → records_taken t room bs h.count ≡ going os →
      SoundBytes (contents (kind_number h.kind) h.k os (numbers_of h.count (drop (8 + 24 * h.count) bs)))
  going_back h os b e r =
      let f = frame_back t.TYPE bs h b e in
      let n = h.count in
      let fl = f.long in
      let k = taken_back t law room bs n os b (omega arith) r in
      let o = numbers_back n (drop (8 + 24 * n) bs) (bytes_drop (8 + 24 * n) bs b) (simp length-drop (omega arith)) in
      let m = k.many in
      let few = f.few in
      let place = place_of t room [] os (omega arith) k.enters in
      let x = take-append-drop 8 bs in
      let y = take-append-drop (24 * n) (drop 8 bs) in
      let z = drop-drop (24 * n) 8 bs in
      let heads : take 8 bs ≡ bytes_of_header t.TYPE (kind_number h.kind) (length os) h.k = f.bytes ∙ ap (λ m. bytes_of_header t.TYPE (kind_number h.kind) m h.k) (sym m) in
      record {
        sound = record {
          kind = number_small h.kind;
          k = f.k;
          count = omega arith;
          place = omega arith;
          ordered = length_numbers n (drop (8 + 24 * n) bs) ∙ sym m;
          small = o.1;
          fits = fits_of t room [] os k.enters;
          consistent = consistent_of t room [] os k.enters;
        };
        bytes =
            sym x ∙ ap (λ q. take 8 bs ++ q) (sym y) ∙ sym (append_assoc (take 8 bs) (take (24 * n) (drop 8 bs)) (drop (24 * n) (drop 8 bs)))
            ∙ ap (λ q. q ++ take (24 * n) (drop 8 bs) ++ drop (24 * n) (drop 8 bs)) heads
            ∙ ap (λ q. bytes_of_header t.TYPE (kind_number h.kind) (length os) h.k ++ q ++ drop (24 * n) (drop 8 bs)) k.bytes
            ∙ ap (λ q. bytes_of_header t.TYPE (kind_number h.kind) (length os) h.k ++ flat_map (encode_record t) os ++ q) (z ∙ sym o.0);
      }

  outcome_back : (h : Header) (c : Contents I) (r : RecordsTaken I) → Bytes bs → frame_of t.TYPE bs ≡ Ok h → records_taken t room bs h.count ≡ r →
      outcome_after h bs r ≡ accepted c → SoundBytes c
  outcome_back h c (going os) b e r p =
      let q : contents (kind_number h.kind) h.k os (numbers_of h.count (drop (8 + 24 * h.count) bs)) ≡ c = cc in
      subst SoundBytes q (going_back h os b e r)
  outcome_back h c (stopped os i f) b e r p = absurd cc

  header_back : (c : Contents I) (r : Result Header FrameFault) → Bytes bs → frame_of t.TYPE bs ≡ r → outcome_by_header t room bs r ≡ accepted c → SoundBytes c
  header_back c (Ok h) b e p = outcome_back h c (records_taken t room bs h.count) b e refl p
  header_back c (Err f) b e p = absurd cc

  pub reading_back : (c : Contents I) → Bytes bs → reading t room bs ≡ accepted c → SoundBytes c
  reading_back c b p = header_back c (frame_of t.TYPE bs) b refl p

  pub reading_there : (c : Contents I) → Sound t room c → bs ≡ encode t c → reading t room bs ≡ accepted c
  reading_there c v e =
      let n = length c.ops in
      let recs = flat_map (encode_record t) c.ops in
      let ords = flat_map (bytes_of_number 2) c.order in
      let head = bytes_of_header t.TYPE c.kind n c.k in
      let lh = length_header t.TYPE c.kind n c.k in
      let lr = length_joined (encode_record t) 24 (length_record t) c.ops in
      let lo = length_joined (bytes_of_number 2) 2 (length_bytes 2) c.order in
      let eq = v.ordered in
      let place = v.place in
      let enters = enters_of t law room [] c.ops tt v.fits v.consistent (omega arith) in
      let e₁ : bs ≡ head ++ (recs ++ ords) = e ∙ append_assoc head recs ords in
      let kind = kind_of c.kind v.kind in
      let f : frame_of t.TYPE bs ≡ Ok (record { kind = kind.0; count = n; k = c.k }) =
      ap (frame_of t.TYPE) e₁ ∙ ap (λ m. frame_of t.TYPE (bytes_of_header t.TYPE m n c.k ++ (recs ++ ords))) (sym kind.1)
      ∙ frame_there t.TYPE n c.k kind.0 (recs ++ ords) law.coded v.count v.k (rw length-append (omega arith)) in
      let r : records_taken t room bs n ≡ going c.ops =
      ap (records_taken t room bs) (sym (zero-add n)) ∙ taken_there t law room bs head ords [] c.ops lh e₁ refl enters in
      let d : drop (8 + 24 * n) bs ≡ ords = ap (drop (8 + 24 * n)) e ∙ drop_at (head ++ recs) ords (8 + 24 * n) (rw length-append (omega arith)) in
      let o : numbers_of n (drop (8 + 24 * n) bs) ≡ c.order =
      ap (numbers_of n) d ∙ ap (λ m. numbers_of m ords) (sym eq) ∙ numbers_there c.order v.small in
      ap (outcome_by_header t room bs) f ∙ ap (outcome_after (record { kind = kind.0; count = n; k = c.k }) bs) r
      ∙ ap (λ q. accepted (contents (kind_number kind.0) c.k c.ops q)) o ∙ ap (λ m. accepted (contents m c.k c.ops c.order)) kind.1

-- an answer that accepts says the contents
pub accepted_of : {I : Type 0} (r : Result Accepted ReadFault) (o : Outcome I) (old os : List (Operation I)) → shown r ≡ read_answer o → os ≡ sheet_after old o →
    IfOk r (λ a. o ≡ accepted (contents_of a os))
accepted_of (Err f) o old os e h = tt
accepted_of (Ok a) (unread f) old os e h = absurd cc
accepted_of (Ok a) (refused fs i f) old os e h = absurd cc
accepted_of {I} (Ok a) (accepted c) old os e h =
    let p : said a ≡ saying_of c = cc in
    let with-ops : Said → List (Operation I) → Contents I = λ s ops. contents s.kind s.k ops s.order in
    let q : with-ops (saying_of c) c.ops ≡ with-ops (said a) os = cc in
    ap (λ d. accepted d) q

module _ {I : Type 0} (t : Ghosts I) (law : Lawful t) (room : ℕ) (bs : List ℕ) where
  pub right_answer : Bytes bs → (a : Accepted) (old os : List (Operation I)) → Ok (said a) ≡ read_answer (reading t room bs) → os ≡ sheet_after old (reading t room bs) →
      SoundBytes t law room bs (contents_of a os)
  right_answer b a old os e h = reading_back t law room bs (contents_of a os) b (accepted_of (Ok a) (reading t room bs) old os e h)

  pub exact_answer : (r : Result Accepted ReadFault) (old os : List (Operation I)) → shown r ≡ read_answer (reading t room bs) → os ≡ sheet_after old (reading t room bs) →
      (c : Contents I) → Sound t room c → bs ≡ encode t c → (shown r ≡ Ok (saying_of c)) × (os ≡ c.ops)
  exact_answer r old os e h c s p =
      let q = reading_there t law room bs c s p in
      (e ∙ ap read_answer q, h ∙ ap (sheet_after old) q)
