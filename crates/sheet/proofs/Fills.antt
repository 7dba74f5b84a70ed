-- What the records hold past the operations entered.
use Rattle.std.proofs.Common.{◌≡◌, ◌+◌, ◌-◌, ◌≤◌, List, ◌++◌, length, take, drop, sym, refl, ap, ◌∙◌, arith, length-take-le, drop_at}
use Rattle.std.proofs.lemmas.List.{take-append-drop, drop-drop}
use Rattle.sheet.specs.declared.operation.Operation.{Operation}
use Rattle.sheet.specs.declared.sheet.Sheet.{Sheet}
use Rattle.giving.specs.Fronts.{over}
use Rattle.sheet.specs.Sheets.{memory, entered, SameLoan}

module _ {I : Type 0} where
  -- memory as it was: the operations entered are over its front
  over_same : (s : Sheet I) → memory s ≡ over (entered s) (memory s)
  over_same s =
      let l = length-take-le s.count (memory s) s.within in
      sym (take-append-drop s.count (memory s)) ∙ ap (λ n. take s.count (memory s) ++ drop n (memory s)) (sym l)

  -- a list over memory that has one of at most its length over its front: that one is gone
  over_twice : (os fin mem : List (Operation I)) → length os ≤ length fin → over fin (over os mem) ≡ over fin mem
  over_twice os fin mem h =
      let d = length fin - length os in
      let e : length os + d ≡ length fin = omega arith in
      let p : drop (length fin) (os ++ drop (length os) mem) ≡ drop (length fin) mem =
      ap (λ n. drop n (os ++ drop (length os) mem)) (sym e) ∙ sym (drop-drop d (length os) (os ++ drop (length os) mem))
      ∙ ap (drop d) (drop_at os (drop (length os) mem) (length os) refl) ∙ drop-drop d (length os) mem ∙ ap (λ n. drop n mem) e in
      ap (λ z. fin ++ z) p

  -- a sheet as it was
  pub loan_same : (s : Sheet I) → SameLoan s s
  loan_same s = record { memory = over_same s; room = refl; lender = refl }

  -- a sheet after two calls, of which the second only enters
  pub loan_twice : (s t u : Sheet I) → SameLoan s t → SameLoan t u → length (entered t) ≤ length (entered u) → SameLoan s u
  loan_twice s t u a b h =
      record {
        memory = b.memory ∙ ap (over (entered u)) a.memory ∙ over_twice (entered t) (entered u) (memory s) h;
        room = b.room ∙ a.room;
        lender = b.lender ∙ a.lender;
      }
