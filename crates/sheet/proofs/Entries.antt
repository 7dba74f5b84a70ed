-- What an entered operation adds to a sheet.
use Rattle.std.proofs.Common.{◌≡◌, ℕ, ◌+◌, ◌<◌, ◌≤◌, min, Bool, true, false, cond, ltb, leb, List, [], ◌∷◌, ◌++◌, length, take, drop, set, Some, None, Ok, Option, sym, refl, ap, ◌∙◌, subst, append_assoc, append-nil, arith, length-set, length-take-le, drop-set-lt}
use mathlib.Core.Logic.{∥∥₁_map}
use Rattle.std.proofs.lemmas.List.{take-append-drop, take_more_set}
use Rattle.giving.specs.Fronts.{over}
use Rattle.std.proofs.lemmas.Bool.Decides.{nat_tests}
use Rattle.refusal.proofs.Checks.{passed}
use Rattle.sheet.specs.declared.operation.Method.{Method}
use Rattle.sheet.specs.declared.operation.Method.TheVariants.{Add, Take, FoundEmpty}
use Rattle.sheet.specs.declared.operation.Operation.{Operation}
use Rattle.sheet.specs.declared.fault.SheetFault.TheVariants.{Full, EndBeforeStart}
use Rattle.sheet.specs.Alike.{alike, first_alike_in}
use Rattle.sheet.specs.Consistency.{Same, NewMethod, Consistent}
use Rattle.sheet.specs.Entering.{enter_answer, unless_repeated}

not_there : (b : Bool) (k : ℕ) (r : Option ℕ) → cond b (Some k) r ≡ None → (b ≡ false) × (r ≡ None)
not_there true k r e = cc
not_there false k r e = (refl, e)

no_other : {I : Type 0} (m : Method I) (n at : ℕ) (r : Option ℕ) → unless_repeated m n r ≡ Ok at → r ≡ None
no_other m n at None e = refl
no_other m n at (Some k) e = cc

module _ {I : Type 0} (number : I → ℕ) where
  unlike : (x y : Method I) → alike number x y ≡ false → Same x y → ⊥
  unlike (Add x) (Add y) e s = let n = ap number s in grind (arith, nat_tests)
  unlike (Add x) (Take y) e s = s
  unlike (Add x) FoundEmpty e s = s
  unlike (Take x) (Add y) e s = s
  unlike (Take x) (Take y) e s = let n = ap number s in grind (arith, nat_tests)
  unlike (Take x) FoundEmpty e s = s
  unlike FoundEmpty (Add y) e s = s
  unlike FoundEmpty (Take y) e s = s
  unlike FoundEmpty FoundEmpty e s = s

  new_from_none : (m : Method I) (k : ℕ) (os : List (Operation I)) → first_alike_in number m k os ≡ None → NewMethod m os
  new_from_none m k [] e = tt
  new_from_none m k (o ∷ os) e =
      let p = not_there (alike number o.method m) k (first_alike_in number m (k + 1) os) e in
      (unlike o.method m p.0, new_from_none m (k + 1) os p.1)

  -- what an operation that is entered obeys
  pub record Entered (room : ℕ) (os : List (Operation I)) (op : Operation I) : Type 0 where
    pub place : length os < room
    pub timed : op.start ≤ op.end
    pub fresh : NewMethod op.method os

  pub enter_back : (room at : ℕ) (os : List (Operation I)) (op : Operation I) → enter_answer number room os op ≡ Ok at → Entered room os op
  enter_back room at os op e =
      let p = passed (leb room (length os)) (Full (length os)) _ at e in
      let q = passed (ltb op.end op.start) (EndBeforeStart (length os)) _ at p.1 in
      record {
        place = let t = p.0 in grind (arith, nat_tests);
        timed = let t = q.0 in grind (arith, nat_tests);
        fresh = new_from_none op.method 0 os (no_other op.method (length os) at (first_alike_in number op.method 0 os) q.1);
      }

  -- the number that is answered is the place
  pub enter_number : (room at : ℕ) (os : List (Operation I)) (op : Operation I) → enter_answer number room os op ≡ Ok at → enter_answer number room os op ≡ Ok (length os)
  enter_number room at os op e =
      let p = passed (leb room (length os)) (Full (length os)) _ at e in
      let q = passed (ltb op.end op.start) (EndBeforeStart (length os)) _ at p.1 in
      let n = no_other op.method (length os) at (first_alike_in number op.method 0 os) q.1 in
      e ∙ sym q.1 ∙ ap (unless_repeated op.method (length os)) n

module _ {I : Type 0} where
  consistent_push : (os ops : List (Operation I)) (op : Operation I) → Consistent os ops → op.start ≤ op.end → NewMethod op.method (os ++ ops) →
      Consistent os (ops ++ op ∷ [])
  consistent_push os [] op s t f = (t, subst (NewMethod op.method) (append-nil os) f, tt)
  consistent_push os (o ∷ ops) op s t f =
      (s.0, s.1, consistent_push (os ++ o ∷ []) ops op s.2 t (subst (NewMethod op.method) (sym (append_assoc os (o ∷ []) ops)) f))

  written : (xs : List (Operation I)) (k : ℕ) (x : Operation I) → k < length xs → set xs k x ≡ over (take (k + 1) (set xs k x)) xs
  written xs k x h =
      let n = length-set xs k x in
      let l = length-take-le (k + 1) (set xs k x) (omega arith) in
      let m : k < length (take (k + 1) (set xs k x)) = omega arith in
      sym (take-append-drop (k + 1) (set xs k x)) ∙ ap (λ j. take (k + 1) (set xs k x) ++ drop j (set xs k x)) (sym l)
      ∙ ap (λ z. take (k + 1) (set xs k x) ++ z) (drop-set-lt (length (take (k + 1) (set xs k x))) xs k x m)

  -- a sheet once an operation is entered: its invariant, and what its records are
  pub record Grown (mem : List (Operation I)) (count : ℕ) (op : Operation I) : Type 0 where
    pub within : count + 1 ≤ length (set mem count op)
    pub bounded : count + 1 ≤ 1024
    pub consistent : ∥ Consistent [] (take (count + 1) (set mem count op)) ∥₁
    pub memory : set mem count op ≡ over (take (count + 1) (set mem count op)) mem
    pub room : min (length (set mem count op)) 1024 ≡ min (length mem) 1024

  pub grown : (number : I → ℕ) (mem : List (Operation I)) (count at : ℕ) (op : Operation I) → count ≤ length mem → count ≤ 1024 →
      ∥ Consistent [] (take count mem) ∥₁ → Ok at ≡ enter_answer number (min (length mem) 1024) (take count mem) op → Grown mem count op
  grown number mem count at op w b s e =
      let l = length-take-le count mem w in
      let r = enter_back number (min (length mem) 1024) at (take count mem) op (sym e) in
      let p = r.place in
      let f : count < length mem = omega arith in
      record {
        within = simp length-set (omega arith);
        bounded = omega arith;
        consistent = ∥∥₁_map s (λ t. subst (Consistent []) (sym (take_more_set mem count op f)) (consistent_push [] (take count mem) op t r.timed r.fresh));
        memory = written mem count op f;
        room = ap (λ n. min n 1024) (length-set mem count op);
      }
