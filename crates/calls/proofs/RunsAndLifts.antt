-- Runs and lifts. Assumes nothing.
use Rattle.std.proofs.Common.{◌≡◌, ℕ, suc, ◌+◌, ◌-◌, ◌⊎◌, List, [], ◌∷◌, ◌++◌, length, get_or, take, drop, Some, None, Ok, Err, Option, Result, sym, refl, ap, ◌∙◌, subst, inl, inr, ⊎_elim, append_assoc, append-nil, add-zero, zero-add, arith, length-append, take_at}
use lib.Seq.{get_or_at, split_at}
use Rattle.std.proofs.lemmas.List.{drop_all}
use Rattle.std.proofs.lemmas.Bool.{cond-false, ne_eqb}
use Rattle.giving.specs.Lists.{SeatRule, times}
use Rattle.giving.proofs.Counts.{times_append}
use Rattle.order.specs.declared.operation.Paired.{Paired}
use Rattle.calls.specs.declared.fault.DocketFault.{DocketFault}
use Rattle.calls.specs.declared.fault.DocketFault.TheVariants.{NothingToLift}
use Rattle.order.specs.Steps.{operation, after_step, giving_after}
use Rattle.order.specs.Orders.{Acceptable, PlacedFrom, TrueOrder}
use Rattle.order.proofs.Splits.{same_times}
use Rattle.order.proofs.Whole.{placed_of_true}
use Rattle.calls.specs.Rules.{place_answer, Run, unless_refused, run_of, lift_answer, without_last}
use Rattle.calls.specs.Meanings.{Refused, Placing, InTurn}
use Rattle.calls.proofs.Judged.{judged, accepted, answer_is}
use Rattle.order.proofs.Growing.{giving_append}

-- ---- the steps but the last, and the last
pub last_off : (x : ℕ) (p : List ℕ) → x ∷ p ≡ without_last (x ∷ p) ++ (get_or (x ∷ p) (length (x ∷ p) - 1) 0 ∷ [])
last_off x p =
    let n : ℕ = length (x ∷ p) - 1 in
    let rest : drop (suc n) (x ∷ p) ≡ [] = drop_all (suc n) (x ∷ p) (omega arith) in
    split_at (x ∷ p) n 0 (omega arith) ∙ ap (λ l. take n (x ∷ p) ++ (get_or (x ∷ p) n 0 ∷ l)) rest

one_less : (q : List ℕ) (x : ℕ) → length q ≡ length (q ++ (x ∷ [])) - 1
one_less q x = omega (arith, length-append q (x ∷ []))

pub without_last_is : (q : List ℕ) (x : ℕ) → without_last (q ++ (x ∷ [])) ≡ q
without_last_is q x = take_at q (x ∷ []) (length (q ++ (x ∷ [])) - 1) (one_less q x)

pub lift_is : (q : List ℕ) (x : ℕ) → lift_answer (q ++ (x ∷ [])) ≡ Ok x
lift_is q x =
    let n : ℕ = length (q ++ (x ∷ [])) in
    cond-false _ (Err NothingToLift) (Ok (get_or (q ++ (x ∷ [])) (n - 1) 0)) (ne_eqb n 0 (λ e. omega (arith, length-append q (x ∷ []))))
    ∙ ap Ok (get_or_at q x [] 0 (n - 1) (one_less q x))

module _ (seat : SeatRule) (ops : List Paired) (k : ℕ) where
  -- ---- what comes of a run: every number may come next in turn, or one is refused
  abbrev pub Outcome : List ℕ → ℕ → List ℕ → Run → Type 0
  Outcome p m xs R =
      (InTurn seat ops k p xs × (R ≡ record { steps = p ++ xs; new = m + length xs; stopped = None }))
      ⊎ ((us : List ℕ) × (x : ℕ) × (vs : List ℕ) × (e : DocketFault) × (xs ≡ us ++ (x ∷ vs)) × InTurn seat ops k p us × Refused seat ops k (p ++ us) x e
      × (R ≡ record { steps = p ++ us; new = m + length us; stopped = Some e }))

  longer : (p xs : List ℕ) (m x : ℕ) (o : Option DocketFault) (R : Run) → R ≡ record { steps = (p ++ (x ∷ [])) ++ xs; new = suc m + length xs; stopped = o }
      → R ≡ record { steps = p ++ (x ∷ xs); new = m + suc (length xs); stopped = o }
  longer p xs m x o R e =
      let j : (p ++ (x ∷ [])) ++ xs ≡ p ++ (x ∷ xs) = append_assoc p (x ∷ []) xs in
      let n : suc m + length xs ≡ m + suc (length xs) = omega arith in
      cc

  more : (p xs : List ℕ) (m x : ℕ) (R : Run) → Acceptable ops k p (giving_after seat ops p) x → Outcome (p ++ (x ∷ [])) (suc m) xs R → Outcome p m (x ∷ xs) R
  more p xs m x R ok o =
      ⊎_elim
      (λ h. inl ((ok, h.0), longer p xs m x None R h.1))
      (λ h. inr (
        x ∷ h.0,
        h.1,
        h.2,
        h.3,
        ap (λ (l : List ℕ). x ∷ l) h.4,
        (ok, h.5),
        subst (λ (l : List ℕ). Refused seat ops k l h.1 h.3) (append_assoc p (x ∷ []) h.0) h.6,
        longer p h.0 m x (Some h.3) R h.7,
      ))
      o

  pub outcome : (xs p : List ℕ) (m : ℕ) → Outcome p m xs (run_of seat ops k p m xs)
  outcome [] p m = inl (tt, rw (append-nil, add-zero))
  outcome (x ∷ xs) p m =
      let R : Result ℕ DocketFault → Run = λ a. unless_refused p m a (run_of seat ops k (p ++ (x ∷ [])) (suc m) xs) in
      elim (place_answer seat ops k p x) as (λ a. Placing seat ops k p x a → Outcome p m (x ∷ xs) (R a)) [
        | Ok r ↦ λ g. more p xs m x (R (Ok r)) g.0 (outcome xs (p ++ (x ∷ [])) (suc m))
        | Err e ↦ λ g. inr ([], x, xs, e, refl, tt, subst (λ (l : List ℕ). Refused seat ops k l x e) (sym (append-nil p)) g, rw (append-nil, add-zero))
      ] (judged seat ops k p x)

  -- ---- numbers that may come next in turn are placed, and the run goes on
  run_on : (us p rest : List ℕ) (m : ℕ) → InTurn seat ops k p us → run_of seat ops k p m (us ++ rest) ≡ run_of seat ops k (p ++ us) (m + length us) rest
  run_on [] p rest m h = rw (append-nil, add-zero)
  run_on (x ∷ us) p rest m h =
      let R : Result ℕ DocketFault → Run = λ a. unless_refused p m a (run_of seat ops k (p ++ (x ∷ [])) (suc m) (us ++ rest)) in
      let j : (p ++ (x ∷ [])) ++ us ≡ p ++ (x ∷ us) = append_assoc p (x ∷ []) us in
      let n : suc m + length us ≡ m + suc (length us) = omega arith in
      ap R (accepted seat ops k p x h.0) ∙ (run_on us (p ++ (x ∷ [])) rest (suc m) h.1 ∙ cc)

  pub ran_is : (xs p : List ℕ) → InTurn seat ops k p xs → run_of seat ops k p 0 xs ≡ record { steps = p ++ xs; new = length xs; stopped = None }
  ran_is xs p h =
      let z : 0 + length xs ≡ length xs = zero-add (length xs) in
      ap (run_of seat ops k p 0) (sym (append-nil xs)) ∙ (run_on xs p [] 0 h ∙ cc)

  pub ran_until_is : (us p : List ℕ) (x : ℕ) (vs : List ℕ) (e : DocketFault) → InTurn seat ops k p us → Refused seat ops k (p ++ us) x e
      → run_of seat ops k p 0 (us ++ (x ∷ vs)) ≡ record { steps = p ++ us; new = length us; stopped = Some e }
  ran_until_is us p x vs e h g =
      let z : 0 + length us ≡ length us = zero-add (length us) in
      let R : Result ℕ DocketFault → Run = λ a. unless_refused (p ++ us) (0 + length us) a (run_of seat ops k ((p ++ us) ++ (x ∷ [])) (suc (0 + length us)) vs) in
      run_on us p (x ∷ vs) 0 h ∙ (ap R (answer_is seat ops k (p ++ us) x (Err e) g) ∙ cc)

  -- ---- the steps of a placed order may come next in turn
  in_turn : (o p done L : List ℕ) → ((a : ℕ) → times a p ≡ times a done) → giving_after seat ops p ≡ L → PlacedFrom seat ops k done L o → InTurn seat ops k p o
  in_turn [] p done L t e h = tt
  in_turn (x ∷ o) p done L t e h = (
    same_times seat ops k done p (giving_after seat ops p) x t (rw e h.0),
    in_turn o (p ++ (x ∷ [])) (x ∷ done) (after_step seat x (operation ops x).deed L) (λ a. omega (arith, t a, times_append a p (x ∷ [])))
        (giving_append seat ops p (x ∷ []) [] ∙ ap (after_step seat x (operation ops x).deed) e) h.1,
  )

  pub whole : (o : List ℕ) → TrueOrder seat ops k o → run_of seat ops k [] 0 o ≡ record { steps = o; new = length ops; stopped = None }
  whole o t =
      let g = placed_of_true seat ops k o t in
      let e : length o ≡ length ops = g.1 in
      ran_is o [] (in_turn o [] [] [] (λ a. refl) refl g.0) ∙ cc
