-- Operations that enter a sheet in turn are those that are consistent, and the reverse.
use Rattle.std.proofs.Common.{◌≡◌, ℕ, ◌+◌, ◌<◌, ◌≤◌, Bool, true, false, cond, ◌&&◌, eqb, ltb, leb, List, [], ◌∷◌, ◌++◌, length, is_ok, Some, None, Ok, Err, Result, sym, refl, ap, ◌∙◌, append_assoc, append-nil, arith}
use mathlib.Core.Bool.{Bool-set}
use mathlib.Core.Logic.{∥∥₁_elim}
use Rattle.std.proofs.lemmas.List.{length_push}
use Rattle.std.proofs.lemmas.Bool.{and_parts}
use Rattle.std.proofs.lemmas.Bool.Decides.{nat_tests}
use Rattle.std.proofs.SliceLists.{all_by_recursion_push}
use Rattle.refusal.proofs.Checks.{pass}
use Rattle.item.specs.declared.item.Item.{Ghosts}
use Rattle.item.specs.Items.{Lawful}
use Rattle.sheet.specs.declared.operation.Method.{Method}
use Rattle.sheet.specs.declared.operation.Method.TheVariants.{Add, Take, FoundEmpty}
use Rattle.sheet.specs.declared.operation.Operation.{Operation}
use Rattle.sheet.specs.declared.fault.SheetFault.TheVariants.{Full, EndBeforeStart}
use Rattle.sheet.specs.Alike.{alike, first_alike_in}
use Rattle.sheet.specs.Consistency.{Same, NewMethod, Consistent}
use Rattle.sheet.specs.Entering.{enter_answer, unless_repeated}
use Rattle.sheet.proofs.Entries.{enter_back, enter_number}
use Rattle.record.specs.Records.{Fit, FitMethod}
use Rattle.trace.specs.Contents.{AllFit}

was_ok : {A E : Type 0} (r : Result A E) → is_ok r ≡ true → (x : A) × (r ≡ Ok x)
was_ok (Ok x) e = (x, refl)
was_ok (Err f) e = absurd cc

module _ {I : Type 0} (t : Ghosts I) where
  -- each of ops fits, and a sheet that holds os takes them in turn
  abbrev pub Enters : ℕ → List (Operation I) → List (Operation I) → Type 0
  Enters room os [] = Unit {0}
  Enters room os (op ∷ ops) = Fit t op × (enter_answer t.number room os op ≡ Ok (length os)) × Enters room (os ++ op ∷ []) ops

  pub enters_push : (room : ℕ) (os ops : List (Operation I)) (op : Operation I) → Enters room os ops → Fit t op →
      enter_answer t.number room (os ++ ops) op ≡ Ok (length (os ++ ops)) → Enters room os (ops ++ op ∷ [])
  enters_push room os [] op e f a =
      (f, ap (λ z. enter_answer t.number room z op) (sym (append-nil os)) ∙ a ∙ ap (λ z. Ok (length z)) (append-nil os), tt)
  enters_push room os (x ∷ ops) op e f a =
      let s = append_assoc os (x ∷ []) ops in
      (e.0, e.1, enters_push room (os ++ x ∷ []) ops op e.2 f (ap (λ z. enter_answer t.number room z op) s ∙ a ∙ ap (λ z. Ok (length z)) (sym s)))

  pub fits_of : (room : ℕ) (os ops : List (Operation I)) → Enters room os ops → AllFit t ops
  fits_of room os [] e = tt
  fits_of room os (op ∷ ops) e = (e.0, fits_of room (os ++ op ∷ []) ops e.2)

  pub consistent_of : (room : ℕ) (os ops : List (Operation I)) → Enters room os ops → Consistent os ops
  consistent_of room os [] e = tt
  consistent_of room os (op ∷ ops) e =
      let b = enter_back t.number room (length os) os op e.1 in
      (b.timed, b.fresh, consistent_of room (os ++ op ∷ []) ops e.2)

  pub place_of : (room : ℕ) (os ops : List (Operation I)) → length os ≤ room → Enters room os ops → length os + length ops ≤ room
  place_of room os [] l e = omega arith
  place_of room os (op ∷ ops) l e =
      let b = enter_back t.number room (length os) os op e.1 in
      let p = b.place in
      let n = length_push os op in
      let i = place_of room (os ++ op ∷ []) ops (omega arith) e.2 in
      omega arith

  module _ (law : Lawful t) where
    one_item : (x y : I) → t.fit x → t.fit y → t.number x ≡ t.number y → x ≡ y
    one_item x y f h e = let p = law.there x f in let q = law.there y h in let r = ap t.named e in cc

    apart : (m n : ℕ) → (m ≡ n → ⊥) → eqb m n ≡ false
    apart m n h = grind (arith, nat_tests)

    -- an item has one number, so what is new by the items is new by their numbers
    unlike : (x y : Method I) → FitMethod t x → FitMethod t y → (Same x y → ⊥) → alike t.number x y ≡ false
    unlike (Add x) (Add y) f h n = apart (t.number x) (t.number y) (λ e. n (one_item x y f h e))
    unlike (Add x) (Take y) f h n = refl
    unlike (Add x) FoundEmpty f h n = refl
    unlike (Take x) (Add y) f h n = refl
    unlike (Take x) (Take y) f h n = apart (t.number x) (t.number y) (λ e. n (one_item x y f h e))
    unlike (Take x) FoundEmpty f h n = refl
    unlike FoundEmpty (Add y) f h n = refl
    unlike FoundEmpty (Take y) f h n = refl
    unlike FoundEmpty FoundEmpty f h n = refl

    none_alike : (m : Method I) (k : ℕ) (os : List (Operation I)) → FitMethod t m → AllFit t os → NewMethod m os → first_alike_in t.number m k os ≡ None
    none_alike m k [] f a n = refl
    none_alike m k (o ∷ os) f a n =
        ap (λ b. cond b (Some k) (first_alike_in t.number m (k + 1) os)) (unlike o.method m a.0.method f n.0) ∙ none_alike m (k + 1) os f a.1 n.1

    enter_there : (room : ℕ) (os : List (Operation I)) (op : Operation I) → length os < room → AllFit t os → Fit t op → op.start ≤ op.end →
        NewMethod op.method os → enter_answer t.number room os op ≡ Ok (length os)
    enter_there room os op l a f s n =
        let p : leb room (length os) ≡ false = grind (arith, nat_tests) in
        let q : ltb op.end op.start ≡ false = grind (arith, nat_tests) in
        pass (leb room (length os)) (Full (length os)) _ (length os) p
        (pass (ltb op.end op.start) (EndBeforeStart (length os)) _ (length os) q
        (ap (unless_repeated op.method (length os)) (none_alike op.method 0 os f.method a n)))

    pub enters_of : (room : ℕ) (os ops : List (Operation I)) → AllFit t os → AllFit t ops → Consistent os ops → length os + length ops ≤ room → Enters room os ops
    enters_of room os [] a b c l = tt
    enters_of room os (op ∷ ops) a b c l =
        let n = length_push os op in (
          b.0,
          enter_there room os op (omega arith) a b.0 c.0 c.1,
          enters_of room (os ++ op ∷ []) ops (all_by_recursion_push (Fit t) os op a b.0) b.1 c.2 (omega arith),
        )

    -- that they enter, as a test
    all_enter : ℕ → List (Operation I) → List (Operation I) → Bool
    all_enter room os [] = true
    all_enter room os (op ∷ ops) = is_ok (enter_answer t.number room os op) && all_enter room (os ++ op ∷ []) ops

    all_enter_of : (room : ℕ) (os ops : List (Operation I)) → Enters room os ops → all_enter room os ops ≡ true
    unfolding all_enter
    all_enter_of room os [] e = refl
    all_enter_of room os (op ∷ ops) e =
        ap (λ r. is_ok r && all_enter room (os ++ op ∷ []) ops) e.1 ∙ all_enter_of room (os ++ op ∷ []) ops e.2

    enters_again : (room : ℕ) (os ops : List (Operation I)) → AllFit t ops → all_enter room os ops ≡ true → Enters room os ops
    unfolding all_enter
    enters_again room os [] a e = tt
    enters_again room os (op ∷ ops) a e =
        let b = and_parts (is_ok (enter_answer t.number room os op)) (all_enter room (os ++ op ∷ []) ops) e in
        let w = was_ok (enter_answer t.number room os op) b.0 in
        (a.0, enter_number t.number room w.0 os op w.1, enters_again room (os ++ op ∷ []) ops a.1 b.1)

    -- operations that are merely known to be consistent are so
    pub consistent_again : (ops : List (Operation I)) → AllFit t ops → ∥ Consistent [] ops ∥₁ → Consistent [] ops
    consistent_again ops a s =
        let e : all_enter (length ops) [] ops ≡ true =
        ∥∥₁_elim s (Bool-set _ _) (λ c. all_enter_of (length ops) [] ops (enters_of (length ops) [] ops tt a c (omega arith))) in
        consistent_of (length ops) [] ops (enters_again (length ops) [] ops a e)
