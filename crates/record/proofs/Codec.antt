-- A record's bytes and its operation determine one another.
use Rattle.std.proofs.Common.{◌≡◌, ℕ, zero, suc, ◌+◌, ◌*◌, ◌/◌, ◌%◌, ◌^◌, ◌<◌, ◌≤◌, cond, eqb, ltb, List, [], ◌++◌, length, take, drop, Ok, Err, Result, sym, refl, ap, ◌∙◌, subst, append_assoc, append-nil, arith, length-append, length-drop, take_all}
use Rattle.std.proofs.lemmas.List.{drop-drop, take-append-drop}
use Rattle.std.proofs.lemmas.Bool.Decides.{nat_tests}
use Rattle.refusal.proofs.Checks.{passed}
use Rattle.item.specs.declared.fault.ItemFault.{ItemFault}
use Rattle.item.specs.declared.item.Item.{Ghosts}
use Rattle.item.specs.Items.{Lawful}
use Rattle.sheet.specs.declared.operation.Method.{Method}
use Rattle.sheet.specs.declared.operation.Method.TheVariants.{Add, Take, FoundEmpty}
use Rattle.sheet.specs.declared.operation.Operation.{Operation}
use Rattle.record.specs.declared.fault.RecordFault.{RecordFault}
use Rattle.record.specs.declared.fault.RecordFault.TheVariants.{NoSuchMethod, SpareBit, ItemOnFoundEmpty}
use Rattle.record.specs.Bytes.{bytes_of_number, number_in, Bytes}
use Rattle.record.specs.Records.{with_item, with_times, method_answer, method_said, operation_of, decode_record, word_of_method, encode_record, FitMethod, Fit}
use Rattle.record.proofs.Digits.{length_bytes, field, field_back, with_four}

pub length_record : {I : Type 0} (t : Ghosts I) (op : Operation I) → length (encode_record t op) ≡ 24
length_record t op = simp (length-append, length_bytes)

-- 24 bytes in their four parts
parts : (bs : List ℕ) → take 6 bs ++ take 2 (drop 6 bs) ++ take 8 (drop 8 bs) ++ drop 16 bs ≡ bs
parts bs =
    let a = take-append-drop 6 bs in
    let b = take-append-drop 2 (drop 6 bs) in
    let c = take-append-drop 8 (drop 8 bs) in
    let d = drop-drop 2 6 bs in
    let e = drop-drop 8 8 bs in
    let f : take 8 (drop 8 bs) ++ drop 16 bs ≡ drop 8 bs = ap (λ z. take 8 (drop 8 bs) ++ z) (sym e) ∙ c in
    let g : take 2 (drop 6 bs) ++ drop 8 bs ≡ drop 6 bs = ap (λ z. take 2 (drop 6 bs) ++ z) (sym d) ∙ b in
    simp append_assoc (ap (λ z. take 6 bs ++ (take 2 (drop 6 bs) ++ z)) f ∙ ap (λ z. take 6 bs ++ z) g ∙ a)

-- the operation of a record whose method is sound
pub decoded : {I : Type 0} (t : Ghosts I) (bs : List ℕ) (word th s e : ℕ) (m : Method I) →
    word ≡ number_in 0 6 bs → th ≡ number_in 6 2 bs → s ≡ number_in 8 8 bs → e ≡ number_in 16 8 bs →
    Ok m ≡ method_said t word → Ok (record { method = m; thread = th; start = s; end = e }) ≡ decode_record t bs
decoded t bs word th s e m p q r v d = ap (with_times th s e) d ∙ with_four (operation_of t) p q r v

module _ {I : Type 0} (t : Ghosts I) (law : Lawful t) where
  word_bound : (m : Method I) → FitMethod t m → word_of_method t m < 2 ^ 48
  word_bound (Add x) f = omega (arith, law.small x f)
  word_bound (Take x) f = omega (arith, law.small x f)
  word_bound FoundEmpty f = omega arith

  word_there : (m : Method I) (th s e : ℕ) → FitMethod t m →
      operation_of t (word_of_method t m) th s e ≡ Ok (record { method = m; thread = th; start = s; end = e })
  word_there (Add x) th s e f =
      let l = law.small x f in
      let m : t.number x / 2 ^ 46 ≡ 0 = omega arith in
      let p : t.number x / 2 ^ 40 % 64 ≡ 0 = omega arith in
      let n : t.number x % 2 ^ 40 ≡ t.number x = omega arith in
      let k = law.there x f in
      simp (m, p, n, k)
  word_there (Take x) th s e f =
      let l = law.small x f in
      let m : (2 ^ 46 + t.number x) / 2 ^ 46 ≡ 1 = omega arith in
      let p : (2 ^ 46 + t.number x) / 2 ^ 40 % 64 ≡ 0 = omega arith in
      let n : (2 ^ 46 + t.number x) % 2 ^ 40 ≡ t.number x = omega arith in
      let k = law.there x f in
      simp (m, p, n, k)
  word_there FoundEmpty th s e f = refl

  -- an operation's bytes say that operation
  pub record_there : (op : Operation I) → Fit t op → decode_record t (encode_record t op) ≡ Ok op
  record_there op f =
      let a = bytes_of_number 6 (word_of_method t op.method) in
      let b = bytes_of_number 2 op.thread in
      let c = bytes_of_number 8 op.start in
      let d = bytes_of_number 8 op.end in
      let wb = word_bound op.method f.method in
      let tb = f.thread in
      let sb = f.start in
      let eb = f.end in
      let i = field 0 6 (word_of_method t op.method) (a ++ b ++ c ++ d) [] (b ++ (c ++ d)) (simp append_assoc) refl (omega arith) in
      let j = field 6 2 op.thread (a ++ b ++ c ++ d) a (c ++ d) (simp append_assoc) (length_bytes 6 (word_of_method t op.method)) (omega arith) in
      let s = field 8 8 op.start (a ++ b ++ c ++ d) (a ++ b) d (simp append_assoc) (simp (length-append, length_bytes)) (omega arith) in
      let e = field 16 8 op.end (a ++ b ++ c ++ d) (a ++ b ++ c) [] (simp (append_assoc, append-nil)) (simp (length-append, length_bytes)) (omega arith) in
      with_four (operation_of t) i j s e ∙ word_there op.method op.thread op.start op.end f.method

  -- an item that was named goes with its method
  item_back : (method : I → Method I) (n : ℕ) (r : Result I ItemFault) (m : Method I) → t.named n ≡ r → with_item method r ≡ Ok m →
      (x : I) × (method x ≡ m) × (t.number x ≡ n) × t.fit x
  item_back method n (Ok x) m p e = let b = law.back n x p in (x, (let q : method x ≡ m = cc in q), b.0, b.1)
  item_back method n (Err f) m p e = cc

  -- the method, by its number: what it says is its word
  Says : ℕ → ℕ → Method I → Type 0
  Says number field m = (word_of_method t m ≡ number * 2 ^ 46 + field) × FitMethod t m

  empty_back : (n : ℕ) (m : Method I) → cond (eqb n 0) (Ok FoundEmpty) (Err ItemOnFoundEmpty) ≡ Ok m → Says 2 n m
  unfolding Says
  empty_back zero (Add x) e = cc
  empty_back zero (Take x) e = cc
  empty_back zero FoundEmpty e = (refl, tt)
  empty_back (suc n) m e = absurd (grind (arith, nat_tests))

  method_back : (number n : ℕ) (m : Method I) → number ≤ 2 → method_answer t number n ≡ Ok m → Says number n m
  unfolding Says
  method_back zero n m h e =
      let b = item_back (λ x. Add x) n (t.named n) m refl e in
      let q = b.2 in
      subst (Says 0 n) b.1 (omega arith, b.3)
  method_back (suc zero) n m h e =
      let b = item_back (λ x. Take x) n (t.named n) m refl e in
      let q = b.2 in
      subst (Says 1 n) b.1 (omega arith, b.3)
  method_back (suc (suc zero)) n m h e = empty_back n m e
  method_back (suc (suc (suc number))) n m h e = absurd (omega arith)

  times_back : (th s e : ℕ) (r : Result (Method I) RecordFault) (op : Operation I) → with_times th s e r ≡ Ok op →
      (r ≡ Ok op.method) × (op.thread ≡ th) × (op.start ≡ s) × (op.end ≡ e)
  times_back th s e (Ok m) op p =
      let q : record { method = m; thread = th; start = s; end = e } ≡ op = cc in
      (ap (λ o. Ok o.method) q, sym (ap (λ o. o.thread) q), sym (ap (λ o. o.start) q), sym (ap (λ o. o.end) q))
  times_back th s e (Err f) op p = cc

  word_back : (w th s e : ℕ) (op : Operation I) → operation_of t w th s e ≡ Ok op →
      (word_of_method t op.method ≡ w) × FitMethod t op.method × (op.thread ≡ th) × (op.start ≡ s) × (op.end ≡ e)
  unfolding Says
  word_back w th s e op p =
      let u = times_back th s e (method_said t w) op p in
      let known = passed (ltb 2 (w / 2 ^ 46)) NoSuchMethod _ op.method u.0 in
      let spared = passed (ltb 0 (w / 2 ^ 40 % 64)) SpareBit _ op.method known.1 in
      let h : w / 2 ^ 46 ≤ 2 = let k = known.0 in grind (arith, nat_tests) in
      let k : w / 2 ^ 40 % 64 ≡ 0 = let k = spared.0 in grind (arith, nat_tests) in
      let b = method_back (w / 2 ^ 46) (w % 2 ^ 40) op.method h spared.1 in
      let v : word_of_method t op.method ≡ w = omega (arith, b.0) in
      (v, b.1, u.1, u.2, u.3)

  -- the operation that 24 bytes say is written as those bytes
  pub record_back : (bs : List ℕ) (op : Operation I) → Bytes bs → length bs ≡ 24 → decode_record t bs ≡ Ok op → (encode_record t op ≡ bs) × Fit t op
  record_back bs op b l e =
      let r = word_back (number_in 0 6 bs) (number_in 6 2 bs) (number_in 8 8 bs) (number_in 16 8 bs) op e in
      let w = field_back 0 6 bs b (omega arith) in
      let j = field_back 6 2 bs b (omega arith) in
      let s = field_back 8 8 bs b (omega arith) in
      let d = field_back 16 8 bs b (omega arith) in
      let all : List ℕ → List ℕ → List ℕ → List ℕ → List ℕ = λ a b c d. a ++ b ++ c ++ d in
      let whole : all (bytes_of_number 6 (word_of_method t op.method)) (bytes_of_number 2 op.thread) (bytes_of_number 8 op.start) (bytes_of_number 8 op.end) ≡ bs =
      with_four all (ap (bytes_of_number 6) r.0 ∙ w.0) (ap (bytes_of_number 2) r.2 ∙ j.0) (ap (bytes_of_number 8) r.3 ∙ s.0)
      (ap (bytes_of_number 8) r.4 ∙ d.0 ∙ take_all 8 (drop 16 bs) (simp length-drop (omega arith)))
      ∙ parts bs in
      (whole, record { method = r.1; thread = omega (arith, r.2, j.1); start = omega (arith, r.3, s.1); end = omega (arith, r.4, d.1) })
