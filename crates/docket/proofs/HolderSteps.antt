-- The holder after steps that the rules accept. Assumes nothing.
use Rattle.std.proofs.Common.{◌≡◌, ℕ, ◌+◌, ◌<◌, ◌≤◌, true, false, leb, List, [], ◌∷◌, length, is_ok, refl, ap, ◌∙◌, arith}
use Rattle.std.specs.List.{AllByRecursion}
use Rattle.std.proofs.lemmas.Bool.{lt-leb, le-ltb, cond-true}
use Rattle.giving.specs.Lists.{SeatRule, times, without, stands}
use Rattle.giving.proofs.Counts.{times_here}
use Rattle.giving.proofs.Places.{place_absent}
use Rattle.order.specs.declared.operation.Deed.{Deed}
use Rattle.order.specs.declared.operation.Deed.TheVariants.{Add, Take, TakeOfNone, FoundEmpty}
use Rattle.order.specs.declared.operation.Paired.{Paired}
use Rattle.order.specs.Steps.{operation, after_step, giving_from, items_added, adds_in}
use Rattle.holder.specs.Answers.{add_answer}
use Rattle.docket.specs.declared.entry.Entry.{Entry}
use Rattle.docket.specs.Kept.{entry_of}
use Rattle.holder.specs.Meanings.{Meaning}
use Rattle.docket.specs.Moves.{stepped, replayed}
use Rattle.order.proofs.AddUp.{after_times}
use Rattle.order.proofs.Sizes.{added_one}

add_ok : (L : List ℕ) (n x : ℕ) → x < 1024 → times x L ≡ 0 → n < 1024 → is_ok (add_answer L n x) ≡ true
add_ok L n x h z l =
    let a : leb 1024 x ≡ false = lt-leb 1024 x h in
    let b : stands x L ≡ false = le-ltb _ _ (place_absent x L z) in
    let d : leb 1024 n ≡ false = lt-leb 1024 n l in
    rw (a, b, d)

pub stepped_after : (seat : SeatRule) (x : ℕ) (d : Deed) (L : List ℕ) (n : ℕ) → x < 1024 → times x L ≡ 0 → n < 1024
    → stepped seat x d (record { list = L; count = n }) ≡ record { list = after_step seat x d L; count = n + items_added d }
stepped_after seat x Add L n h z l =
    let e = add_ok L n x h z l in
    cond-true {A = Meaning} (is_ok (add_answer L n x)) _ _ e
stepped_after seat x (Take a) L n h z l =
    let e : n ≡ n + 0 = omega arith in
    ap (λ (m : ℕ). record { list = without a L; count = m }) e
stepped_after seat x TakeOfNone L n h z l = let e : n ≡ n + 0 = omega arith in ap (λ (m : ℕ). record { list = L; count = m }) e
stepped_after seat x FoundEmpty L n h z l = let e : n ≡ n + 0 = omega arith in ap (λ (m : ℕ). record { list = L; count = m }) e

module _ (seat : SeatRule) (es : List Entry) (ops : List Paired) where
  -- the operation x is of the table, and does there what it does among the operations
  abbrev pub DeedAgrees : ℕ → Type 0
  DeedAgrees x = (x < 1024) × ((entry_of es x).paired.deed ≡ (operation ops x).deed)

  pub replayed_held : (p L : List ℕ) (n : ℕ) → AllByRecursion DeedAgrees p → ((y : ℕ) → times y L + times y p ≤ 1) → n + length p ≤ 1024
      → replayed seat es (record { list = L; count = n }) p ≡ record { list = giving_from seat ops L p; count = n + adds_in ops p }
  unfolding replayed
  replayed_held [] L n all once few = let e : n ≡ n + 0 = omega arith in ap (λ (m : ℕ). record { list = L; count = m }) e
  replayed_held (x ∷ p) L n all once few =
      let d : Deed = (operation ops x).deed in
      let hit = times_here x x p refl in
      let z : times x L ≡ 0 = omega (arith, once x) in
      let s : stepped seat x (entry_of es x).paired.deed (record { list = L; count = n }) ≡ record { list = after_step seat x d L; count = n + items_added d } =
      ap (λ (e : Deed). stepped seat x e (record { list = L; count = n })) all.0.1 ∙ stepped_after seat x d L n all.0.0 z (omega arith) in
      let m : n + items_added d + adds_in ops p ≡ n + (items_added d + adds_in ops p) = omega arith in
      ap (λ (t : Meaning). replayed seat es t p) s
      ∙ replayed_held p (after_step seat x d L) (n + items_added d) all.1 (λ y. omega (arith, once y, after_times seat x d L y)) (omega (arith, added_one d))
      ∙ ap (λ (v : ℕ). record { list = giving_from seat ops (after_step seat x d L) p; count = v }) m
