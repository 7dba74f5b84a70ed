-- Writing a trace part by part.
use Rattle.std.proofs.Common.{◌≡◌, ℕ, ◌+◌, ◌*◌, ◌^◌, ◌<◌, ◌≤◌, List, [], ◌∷◌, ◌++◌, length, get_or, take, drop, sym, refl, ap, ◌∙◌, append_assoc, append-nil, mul-zero, mul-suc, add-one, arith, length-append, length-take-le, take_all, take_at, drop_at}
use Rattle.std.proofs.lemmas.List.{drop-drop, take-append-drop, take_more, flat_map_more}
use Rattle.std.specs.List.{flat_map}
use Rattle.item.specs.declared.item.Item.{Ghosts}
use Rattle.item.specs.Items.{Lawful}
use Rattle.sheet.specs.Consistency.{Consistent}
use Rattle.sheet.specs.declared.operation.Operation.{Operation}
use Rattle.record.specs.Bytes.{bytes_of_number}
use Rattle.record.specs.Records.{encode_record}
use Rattle.record.proofs.Codec.{length_record}
use Rattle.frame.specs.Headers.{bytes_of_header}
use Rattle.frame.specs.Orders.{Small}
use Rattle.trace.specs.Contents.{contents, encode, AllFit}
use Rattle.trace.specs.Reading.{reading}
use Rattle.trace.specs.Reading.Outcome.{accepted}
use Rattle.frame.proofs.HeaderFields.{length_header}
use Rattle.trace.proofs.RecordsTaken.{length_joined}
use Rattle.trace.proofs.Entries.{consistent_again}
use Rattle.trace.proofs.Readings.{length_encode, reading_there}

-- a part written right after what is written already
grow : (front mem out out' part : List ℕ) (at w to : ℕ) → length front ≡ at → out ≡ front ++ drop at mem →
    out' ≡ take at out ++ part ++ drop (at + w) out → at + w ≡ to → out' ≡ (front ++ part) ++ drop to mem
grow front mem out out' part at w to l e f g =
    let a : take at out ≡ front = ap (take at) e ∙ take_at front (drop at mem) at l in
    let b : drop at out ≡ drop at mem = ap (drop at) e ∙ drop_at front (drop at mem) at l in
    let d : drop (at + w) out ≡ drop (at + w) mem = sym (drop-drop w at out) ∙ ap (drop w) b ∙ drop-drop w at mem in
    f ∙ ap (λ p. p ++ part ++ drop (at + w) out) a ∙ ap (λ q. front ++ part ++ q) d ∙ ap (λ k. front ++ part ++ drop k mem) g

module _ {X : Type 0} (f : X → List ℕ) (w p : ℕ) (mem : List ℕ) (xs : List X) where
  -- rows written one after another, as far as the first i
  pub record RowsWritten (out : List ℕ) (i : ℕ) : Type 0 where
    pub long : length (flat_map f (take i xs)) ≡ w * i
    pub bytes : out ≡ take p mem ++ flat_map f (take i xs) ++ drop (p + w * i) mem

  -- none yet, one more, and all
  pub written_none : p ≤ length mem → RowsWritten mem 0
  written_none h =
      let e : p + w * 0 ≡ p = let z = mul-zero w in omega arith in
      record { long = sym (mul-zero w); bytes = rw (e, append-nil) (sym (take-append-drop p mem)) }

  pub written_more : (out out' part : List ℕ) (i : ℕ) (x : X) → p ≤ length mem → i < length xs → x ≡ get_or xs i x → part ≡ f x → length part ≡ w →
      RowsWritten out i → out' ≡ take (p + w * i) out ++ part ++ drop (p + w * i + length part) out → RowsWritten out' (i + 1)
  written_more out out' part i x h l e g v o n =
      let a = length-take-le p mem h in
      let b = o.long in
      let m = ap (λ k. w * k) (add-one i) ∙ mul-suc w i in
      let t : take (i + 1) xs ≡ take i xs ++ x ∷ [] = take_more xs i x l ∙ ap (λ y. take i xs ++ y ∷ []) (sym e) in
      let more : flat_map f (take (i + 1) xs) ≡ flat_map f (take i xs) ++ f x = ap (flat_map f) t ∙ sym (flat_map_more f [] (take i xs) x) in
      let u : length (f x) ≡ w = ap length (sym g) ∙ v in
      record {
        long = ap length more ∙ length-append (flat_map f (take i xs)) (f x) ∙ omega arith;
        bytes =
            grow (take p mem ++ flat_map f (take i xs)) mem out out' part (p + w * i) (length part) (p + w * (i + 1)) (rw length-append (omega arith)) o.bytes n (omega arith)
            ∙ ap (λ y. (take p mem ++ flat_map f (take i xs)) ++ y ++ drop (p + w * (i + 1)) mem) g
            ∙ ap (λ z. z ++ drop (p + w * (i + 1)) mem) (append_assoc (take p mem) (flat_map f (take i xs)) (f x) ∙ ap (λ z. take p mem ++ z) (sym more));
      }

  pub written_all : (out : List ℕ) (i : ℕ) → i ≡ length xs → RowsWritten out i → out ≡ take p mem ++ flat_map f xs ++ drop (p + w * length xs) mem
  written_all out i e o = o.bytes ∙ ap (λ z. take p mem ++ flat_map f z ++ drop (p + w * i) mem) (take_all i xs (omega arith)) ∙ ap (λ k. take p mem ++ flat_map f xs ++ drop (p + w * k) mem) e

-- the three parts of a trace
pub whole : {I : Type 0} (t : Ghosts I) (code kind k : ℕ) (ops : List (Operation I)) (order head mem o₁ o₂ o₃ : List ℕ) → code ≡ t.TYPE → length order ≡ length ops →
    head ≡ bytes_of_header code kind (length ops) k →
    o₁ ≡ take 0 mem ++ head ++ drop (0 + length head) mem →
    o₂ ≡ take 8 o₁ ++ flat_map (encode_record t) ops ++ drop (8 + 24 * length ops) o₁ →
    o₃ ≡ take (8 + 24 * length ops) o₂ ++ flat_map (bytes_of_number 2) order ++ drop (8 + 24 * length ops + 2 * length order) o₂ →
    o₃ ≡ encode t (contents kind k ops order) ++ drop (8 + 26 * length ops) mem
whole t code kind k ops order head mem o₁ o₂ o₃ same e h p q r =
    let hd : head ≡ bytes_of_header t.TYPE kind (length ops) k = h ∙ ap (λ c. bytes_of_header c kind (length ops) k) same in
    let lh : length head ≡ 8 = ap length hd ∙ length_header t.TYPE kind (length ops) k in
    let z : 0 + length head ≡ 8 = omega arith in
    let first : o₁ ≡ head ++ drop 8 mem = p ∙ ap (λ n. head ++ drop n mem) z in
    let lr = length_joined (encode_record t) 24 (length_record t) ops in
    let a = grow head mem o₁ o₂ (flat_map (encode_record t) ops) 8 (24 * length ops) (8 + 24 * length ops) lh first q refl in
    grow (head ++ flat_map (encode_record t) ops) mem o₂ o₃ (flat_map (bytes_of_number 2) order) (8 + 24 * length ops) (2 * length order) (8 + 26 * length ops)
    (rw length-append (omega arith)) a r (omega arith)
    ∙ ap (λ x. x ++ flat_map (encode_record t) ops ++ flat_map (bytes_of_number 2) order ++ drop (8 + 26 * length ops) mem) hd

-- a written trace reads as what went in
pub reads_back : {I : Type 0} (t : Ghosts I) → Lawful t → (kind k : ℕ) (ops : List (Operation I)) (order out rest : List ℕ) → kind ≤ 2 → k < 2 ^ 16 →
    length ops ≤ 1024 → length order ≡ length ops → Small order → AllFit t ops → ∥ Consistent [] ops ∥₁ → out ≡ encode t (contents kind k ops order) ++ rest →
    (room : ℕ) → length ops ≤ room → reading t room (take (8 + 26 * length ops) out) ≡ accepted (contents kind k ops order)
reads_back t law kind k ops order out rest hk kk few eq small fits consistent e room l =
    let c = contents kind k ops order in
    let whole : take (8 + 26 * length ops) out ≡ encode t (contents kind k ops order) =
    ap (take (8 + 26 * length ops)) e ∙ take_at (encode t (contents kind k ops order)) rest (8 + 26 * length ops) (length_encode t (contents kind k ops order) eq) in
    reading_there t law room (take (8 + 26 * length ops) out) c
    (record { kind = hk; k = kk; count = few; place = l; ordered = eq; small = small; fits = fits; consistent = consistent_again t law ops fits consistent }) whole
