-- A table that was filled entry by entry, before any step. Assumes nothing.
use Rattle.std.proofs.Common.{◌≡◌, ℕ, zero, suc, ◌+◌, ◌<◌, ◌≤◌, false, List, map, length, get_or, take, set, replicate, Some, sym, refl, ap, ◌∙◌, ⊎_elim, arith, length-set}
use Rattle.std.proofs.lemmas.List.{get_or_past, get_or-map, get_or-set_same, get_or-set_other, length-map, length-take-le, ext_get_or}
use Rattle.std.proofs.lemmas.Bool.{cases_lt, cases_eq}
use Rattle.std.proofs.lemmas.Option.{slice_get_read}
use Rattle.std.specs.List.{slice_get}
use Rattle.sheet.specs.declared.operation.Operation.{Operation}
use Rattle.sheet.specs.declared.sheet.Sheet.{Sheet}
use Rattle.sheet.specs.Sheets.{entered}
use Rattle.order.specs.declared.operation.Paired.{Paired}
use Rattle.docket.specs.declared.entry.Entry.{Entry}
use Rattle.order.specs.Steps.{no_operation}
use Rattle.docket.specs.Kept.{fresh, blank, entry_of}
use Rattle.docket.specs.Pairs.{paired_of, paired_all}
use Rattle.docket.specs.InAgreement.{paired_in}
use Rattle.docket.proofs.Table.{op_at, length_ops}

-- the entry of number x, where ps are the operations
abbrev entry_before : List Paired → ℕ → Entry
entry_before ps x = fresh (get_or ps x no_operation)

-- the operation of number k of a sheet, as it is found and as it is paired
module _ {I : Type 0} (number : I → ℕ) (all os : List (Operation I)) (k : ℕ) (o : Operation I) (same : all ≡ os) (h : k < length all) (is : o ≡ get_or all k o) where
  within : k < length os
  within = omega (arith, h, ap (length {A = Operation I}) same)

  here : o ≡ get_or os k o
  here = is ∙ ap (λ (v : List (Operation I)). get_or v k o) same

  pub found_at : slice_get os k ≡ Some o
  found_at = slice_get_read os (length os) k o refl within here

  pub paired_at : get_or (paired_all number os) k no_operation ≡ paired_of number os o
  paired_at = get_or-map (paired_of number os) os k o no_operation within ∙ ap (paired_of number os) (sym here)

-- a sheet holds no more operations than a table
pub few_paired : {I : Type 0} (number : I → ℕ) (s : Sheet I) → length (paired_all number (entered s)) ≤ 1024
few_paired number s = omega (arith, length-map (entered s) (paired_of number (entered s)), length-take-le s.count s.records.now s.within, s.bounded)

all_blank : (n x : ℕ) (e : Entry) → e ≡ blank → entry_of (replicate n e) x ≡ blank
all_blank zero x e is = refl
all_blank (suc n) zero e is = is
all_blank (suc n) (suc x) e is = all_blank n x e is

-- the first n of the operations ps have their entries in the table, and past them it has those of no operation
abbrev pub Written : List Paired → ℕ → List Entry → Type 0
Written ps n es = (length es ≡ 1024) × ((x : ℕ) → x < n → entry_of es x ≡ entry_before ps x) × ((x : ℕ) → n ≤ x → entry_of es x ≡ blank)

pub none_written : (ps : List Paired) (e : Entry) → e ≡ blank → Written ps 0 (replicate 1024 e)
none_written ps e is = (refl, λ x h. absurd (omega arith), λ x h. all_blank 1024 x e is)

-- the next operation's entry is written
pub one_more : (ps : List Paired) (n : ℕ) (es : List Entry) (e : Entry) → n < 1024 → e ≡ entry_before ps n → Written ps n es → Written ps (n + 1) (set es n e)
one_more ps n es e room is was = (
  length-set es n e ∙ was.0,
  λ x h.
      ⊎_elim
      (λ (q : x ≡ n). ap (λ (k : ℕ). get_or (set es n e) k blank) q ∙ get_or-set_same es n e blank (omega (arith, was.0)) ∙ is ∙ ap (entry_before ps) (sym q))
      (λ (q : x ≡ n → ⊥). get_or-set_other es n x e blank q ∙ was.1 x (omega (arith, q)))
      (cases_eq x n),
  λ x h. get_or-set_other es n x e blank (λ z. omega arith) ∙ was.2 x (omega arith),
)

-- all of the operations are written
module _ (ps : List Paired) (n : ℕ) (es : List Entry) (all : n ≡ length ps) (w : Written ps n es) where
  pub entries_are : (x : ℕ) → entry_of es x ≡ entry_before ps x
  entries_are x =
      ⊎_elim
      (λ (h : x < n). w.1 x h)
      (λ (h : n ≤ x). w.2 x h ∙ ap fresh (sym (get_or_past ps x no_operation (omega (arith, all)))))
      (cases_lt x n)

  pub none_placed : (x : ℕ) → (entry_of es x).placed ≡ false
  none_placed x = ap (λ (e : Entry). e.placed) (entries_are x)

  pub table_is : (count : ℕ) → count ≡ length ps → length ps ≤ 1024 → take count (map paired_in es) ≡ ps
  table_is count full few =
      let long = length_ops es count (omega (arith, w.0)) in
      ext_get_or no_operation (take count (map paired_in es)) ps (omega (arith, long, full))
      (λ i h.
      let i' : i < count = omega (arith, h, long) in
      op_at es count i (omega (arith, w.0)) i' ∙ ap paired_in (entries_are i))
