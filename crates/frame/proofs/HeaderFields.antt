-- A header's bytes and its fields determine one another.
use Rattle.std.proofs.Common.{◌≡◌, ℕ, ◌+◌, ◌*◌, ◌/◌, ◌%◌, ◌^◌, ◌<◌, ◌≤◌, false, cond, not, eqb, ltb, List, [], ◌++◌, length, take, drop, Ok, Err, Result, sym, refl, ap, ◌∙◌, append_assoc, arith, length-append, take-add}
use Rattle.std.proofs.lemmas.Bool.Decides.{nat_tests}
use Rattle.refusal.proofs.Checks.{passed, pass}
use Rattle.record.specs.Bytes.{bytes_of_number, number_in, Bytes}
use Rattle.record.proofs.Digits.{length_bytes, field, field_back, with_four}
use Rattle.frame.specs.declared.fault.FrameFault.{FrameFault}
use Rattle.frame.specs.declared.fault.FrameFault.TheVariants.{Short, Version, ItemType, SpareBit, Count, Length}
use Rattle.frame.specs.declared.header.Header.{Header}
use Rattle.frame.specs.declared.kind.Kind.{Kind}
use Rattle.frame.specs.Headers.{header_from, header_of, frame_of, bytes_of_header}
use Rattle.frame.specs.Kinds.{kind_number, kind_named}
use Rattle.frame.proofs.KindNumbers.{named_number, number_small, number_named}

pub length_header : (code kind n k : ℕ) → length (bytes_of_header code kind n k) ≡ 8
length_header code kind n k = simp (length-append, length_bytes)

-- the words of a header that is accepted
record Words (code bytes word n k spare : ℕ) (h : Header) : Type 0 where
  word_is : word ≡ 4096 + kind_number h.kind * 256 + code * 16
  count_is : n ≡ h.count
  few : n ≤ 1024
  k_is : k ≡ h.k
  no_spare : spare ≡ 0
  long : bytes ≡ 8 + 26 * n

words_from : (code bytes word n k spare : ℕ) (h : Header) (r : Result Kind FrameFault) → word / 4096 ≡ 1 → kind_named (word / 256 % 16) ≡ r →
    header_from code bytes word n k spare r ≡ Ok h → Words code bytes word n k spare h
words_from code bytes word n k spare h (Err f) v named e = absurd cc
words_from code bytes word n k spare h (Ok kind) v named e =
    let c = passed (not (eqb (word / 16 % 16) code)) ItemType _ h e in
    let d = passed (ltb 0 (word % 16)) SpareBit _ h c.1 in
    let f = passed (ltb 0 spare) SpareBit _ h d.1 in
    let g = passed (ltb 1024 n) Count _ h f.1 in
    let i = passed (not (eqb bytes (8 + 26 * n))) Length _ h g.1 in
    let p : record { kind = kind; count = n; k = k } ≡ h = let q = i.1 in cc in
    let s : kind_number h.kind ≡ word / 256 % 16 = ap (λ o. kind_number o.kind) (sym p) ∙ number_named (word / 256 % 16) kind named in
    let t : word / 16 % 16 ≡ code = let q = c.0 in grind (arith, nat_tests) in
    let u : word % 16 ≡ 0 = let q = d.0 in grind (arith, nat_tests) in
    record {
      word_is = omega arith;
      count_is = ap (λ o. o.count) p;
      few = let q = g.0 in grind (arith, nat_tests);
      k_is = ap (λ o. o.k) p;
      no_spare = let q = f.0 in grind (arith, nat_tests);
      long = let q = i.0 in grind (arith, nat_tests);
    }

words_back : (code bytes word n k spare : ℕ) (h : Header) → header_of code bytes word n k spare ≡ Ok h → Words code bytes word n k spare h
words_back code bytes word n k spare h e =
    let a = passed (not (eqb (word / 4096) 1)) Version _ h e in
    let v : word / 4096 ≡ 1 = let q = a.0 in grind (arith, nat_tests) in
    words_from code bytes word n k spare h (kind_named (word / 256 % 16)) v refl a.1

words_there : (code n k : ℕ) (kind : Kind) → code < 16 → n ≤ 1024 →
    header_of code (8 + 26 * n) (4096 + kind_number kind * 256 + code * 16) n k 0 ≡ Ok (record { kind = kind; count = n; k = k })
words_there code n k kind c l =
    let m = kind_number kind in
    let h = number_small kind in
    let word = 4096 + m * 256 + code * 16 in
    let a : not (eqb (word / 4096) 1) ≡ false = grind (arith, nat_tests) in
    let i : word / 256 % 16 ≡ m = omega arith in
    let d : not (eqb (word / 16 % 16) code) ≡ false = grind (arith, nat_tests) in
    let e : ltb 0 (word % 16) ≡ false = grind (arith, nat_tests) in
    let f : ltb 1024 n ≡ false = grind (arith, nat_tests) in
    let g : not (eqb (8 + 26 * n) (8 + 26 * n)) ≡ false = grind (arith, nat_tests) in
    pass _ Version _ _ a (ap (header_from code (8 + 26 * n) word n k 0) (ap kind_named i ∙ named_number kind)
    ∙ pass _ ItemType _ _ d (pass _ SpareBit _ _ e (pass _ SpareBit _ _ refl (pass _ Count _ _ f (pass _ Length _ _ g refl)))))

pub frame_there : (code n k : ℕ) (kind : Kind) (rest : List ℕ) → code < 16 → n ≤ 1024 → k < 2 ^ 16 → length rest ≡ 26 * n →
    frame_of code (bytes_of_header code (kind_number kind) n k ++ rest) ≡ Ok (record { kind = kind; count = n; k = k })
frame_there code n k kind rest c l m r =
    let number = kind_number kind in
    let small = number_small kind in
    let bs = bytes_of_header code number n k ++ rest in
    let len : length bs ≡ 8 + 26 * n = let p = length_header code number n k in rw length-append (omega arith) in
    let w-is = field 0 2 (4096 + number * 256 + code * 16) bs [] (bytes_of_number 2 n ++ (bytes_of_number 2 k ++ (bytes_of_number 2 0 ++ rest))) (simp append_assoc) refl (omega arith) in
    let n_is = field 2 2 n bs (bytes_of_number 2 (4096 + number * 256 + code * 16)) (bytes_of_number 2 k ++ (bytes_of_number 2 0 ++ rest)) (simp append_assoc) (length_bytes 2 (4096 + number * 256 + code * 16)) (omega arith) in
    let k_is = field 4 2 k bs (bytes_of_number 2 (4096 + number * 256 + code * 16) ++ bytes_of_number 2 n) (bytes_of_number 2 0 ++ rest) (simp append_assoc) (simp (length-append, length_bytes)) (omega arith) in
    let z-is = field 6 2 0 bs (bytes_of_number 2 (4096 + number * 256 + code * 16) ++ bytes_of_number 2 n ++ bytes_of_number 2 k) rest (simp append_assoc) (simp (length-append, length_bytes)) (omega arith) in
    let short : ltb (length bs) 8 ≡ false = grind (arith, nat_tests) in
    ap (λ b. cond b (Err Short) (header_of code (length bs) (number_in 0 2 bs) (number_in 2 2 bs) (number_in 4 2 bs) (number_in 6 2 bs))) short
    ∙ ap (λ m. header_of code m (number_in 0 2 bs) (number_in 2 2 bs) (number_in 4 2 bs) (number_in 6 2 bs)) len
    ∙ with_four (header_of code (8 + 26 * n)) w-is n_is k_is z-is
    ∙ words_there code n k kind c l

-- a header that is accepted
pub record Framed (code : ℕ) (bs : List ℕ) (h : Header) : Type 0 where
  pub bytes : take 8 bs ≡ bytes_of_header code (kind_number h.kind) h.count h.k
  pub few : h.count ≤ 1024
  pub k : h.k < 2 ^ 16
  pub long : length bs ≡ 8 + 26 * h.count

eight : (bs : List ℕ) → take 2 bs ++ take 2 (drop 2 bs) ++ take 2 (drop 4 bs) ++ take 2 (drop 6 bs) ≡ take 8 bs
eight bs = cc (take-add 2 2 bs, take-add 4 2 bs, take-add 6 2 bs)

pub frame_back : (code : ℕ) (bs : List ℕ) (h : Header) → Bytes bs → frame_of code bs ≡ Ok h → Framed code bs h
frame_back code bs h b e =
    let a = passed (ltb (length bs) 8) Short _ h e in
    let l : 8 ≤ length bs = let q = a.0 in grind (arith, nat_tests) in
    let r = words_back code (length bs) (number_in 0 2 bs) (number_in 2 2 bs) (number_in 4 2 bs) (number_in 6 2 bs) h a.1 in
    let w = field_back 0 2 bs b (omega arith) in
    let n = field_back 2 2 bs b (omega arith) in
    let k = field_back 4 2 bs b (omega arith) in
    let z = field_back 6 2 bs b (omega arith) in
    let all : List ℕ → List ℕ → List ℕ → List ℕ → List ℕ = λ a b c d. a ++ b ++ c ++ d in
    let whole : all (bytes_of_number 2 (4096 + kind_number h.kind * 256 + code * 16)) (bytes_of_number 2 h.count) (bytes_of_number 2 h.k) (bytes_of_number 2 0) ≡ take 8 bs =
    with_four all (ap (bytes_of_number 2) (sym r.word_is) ∙ w.0) (ap (bytes_of_number 2) (sym r.count_is) ∙ n.0) (ap (bytes_of_number 2) (sym r.k_is) ∙ k.0) (ap (bytes_of_number 2) (sym r.no_spare) ∙ z.0)
    ∙ eight bs in
    record {
      bytes = sym whole;
      few = omega (arith, r.few, r.count_is);
      k = omega (arith, k.1, r.k_is);
      long = omega (arith, r.long, r.count_is);
    }
