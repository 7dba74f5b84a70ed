-- The answers of the rules make a session, and nothing else does. Assumes nothing.
use Rattle.std.proofs.Common.{◌≡◌, ℕ, ◌-◌, eqb, List, [], ◌∷◌, ◌++◌, length, get_or, Some, None, Ok, Err, Option, Result, sym, refl, ap, ◌∙◌, subst, ⊎_elim, zero-add, arith}
use Rattle.std.proofs.lemmas.Bool.{cond_both, cond-true, cond-false, eqb-true, eqb-false, eq-eqb, ne_eqb}
use Rattle.giving.specs.Lists.{SeatRule, times}
use Rattle.order.specs.declared.operation.Paired.{Paired}
use Rattle.calls.specs.declared.fault.DocketFault.{DocketFault}
use Rattle.calls.specs.declared.fault.DocketFault.TheVariants.{NothingToLift, StepsMissing, BufferTooShort}
use Rattle.calls.specs.declared.certificate.Certificate.{Certificate}
use Rattle.order.specs.Orders.{Placed}
use Rattle.order.proofs.Whole.{true_of_placed}
use Rattle.calls.specs.Faults.{code_of}
use Rattle.calls.specs.Rules.{unplaced, place_answer, joined, Run, run_of, lift_answer, without_last, Buffers, missing, is_too_short, unless_missing, certificate_of, certify_answer, written}
use Rattle.calls.specs.Calls.{Call, place, run, lift, certify, Answer, to_place, to_run, to_lift, to_certify, answer_for, left_by, placed_by, answers_for}
use Rattle.calls.specs.Meanings.{Placing}
use Rattle.calls.specs.Sessions.{IsAnswered, placed, refused, ran, ran_until, lifted, not_lifted, granted, steps_missing, buffer_short, Session, ended, next}
use Rattle.calls.proofs.Lowest.{Lowest, lowest_is}
use Rattle.calls.proofs.Judged.{judged, answer_is}
use Rattle.calls.proofs.Steps.{placed_left}
use Rattle.calls.proofs.Grants.{short_true, short_false, true_short, false_short, missing_is, by_size, answer_by, all_placed, true_granted}
use Rattle.calls.proofs.RunsAndLifts.{outcome, ran_is, ran_until_is, last_off, without_last_is, lift_is}
use Rattle.calls.proofs.Granted.{is_granted, granted_same}

module _ (seat : SeatRule) (ops : List Paired) (k : ℕ) where
  -- ---- each call is answered as the rules have it
  lift_is_answered : (p : List ℕ) → IsAnswered seat ops k p lift (to_lift (lift_answer p)) (without_last p)
  lift_is_answered [] = not_lifted refl
  lift_is_answered (x ∷ p) =
      let n : ℕ = length (x ∷ p) in
      subst (λ (a : Result ℕ DocketFault). IsAnswered seat ops k (x ∷ p) lift (to_lift a) (without_last (x ∷ p)))
      (sym (cond-false (eqb n 0) (Err NothingToLift) (Ok (get_or (x ∷ p) (n - 1) 0)) (ne_eqb n 0 (λ e. omega arith))))
      (lifted (without_last (x ∷ p)) (get_or (x ∷ p) (n - 1) 0) (last_off x p))

  module _ (p : List ℕ) where
    is_answered : Placed seat ops k p → (c : Call) → IsAnswered seat ops k p c (answer_for seat ops k p c) (left_by seat ops k p c)
    is_answered h (place x) =
        elim (place_answer seat ops k p x) as (λ a. Placing seat ops k p x a → IsAnswered seat ops k p (place x) (to_place a) (joined p x a))
        [ Ok r ↦ λ g. placed x r g | Err e ↦ λ g. refused x e g ] (judged seat ops k p x)
    is_answered h (run xs) =
        let F : Run → Type 0 = λ R. IsAnswered seat ops k p (run xs) (to_run R.new (code_of R.stopped)) R.steps in
        ⊎_elim
        (λ g. subst F (sym g.1) (rw zero-add (ran xs g.0)))
        (λ g. subst F (sym g.7) (rw zero-add (subst (λ (l : List ℕ). IsAnswered seat ops k p (run l) (to_run (length g.0) (code_of (Some g.3))) (p ++ g.0)) (sym g.4)
        (ran_until g.0 g.1 g.2 g.3 g.5 g.6)))) (outcome seat ops k xs p 0)
    is_answered h lift = lift_is_answered p
    is_answered h (certify b) =
        let C : Option ℕ → Result Certificate DocketFault = λ o. unless_missing p o (by_size seat ops p b) in
        elim (missing ops p) as (λ o. Lowest (unplaced p) 0 (length ops) o → IsAnswered seat ops k p (certify b) (to_certify (C o) (written seat ops p b (C o))) p) [
          | Some a ↦ λ g. steps_missing b a (omega arith) (eqb-true (times a p) 0 g.2) (λ c l. omega (arith, eqb-false (times c p) 0 (g.3 c (omega arith) l)))
          | None ↦ λ g.
              cond_both (is_too_short (length ops) b) (Err (BufferTooShort (length ops))) (Ok (certificate_of seat ops p)) (λ a. IsAnswered seat ops k p (certify b) (to_certify a (written seat ops p b a)) p)
              (λ s. buffer_short b (λ c l. omega (arith, eqb-false (times c p) 0 (g c (omega arith) (omega arith)))) (short_true (length ops) b s))
              (λ s. granted b (written seat ops p b (Ok (certificate_of seat ops p))) (certificate_of seat ops p)
              (is_granted seat ops k p b (true_of_placed seat ops k p h (all_placed seat ops k p h g)) (short_false (length ops) b s)))
        ]
        (lowest_is (unplaced p) 0 (length ops))

    -- ---- and no other answer is
    abbrev Only : Call → Answer → List ℕ → Type 0
    Only c a q = (a ≡ answer_for seat ops k p c) × (q ≡ left_by seat ops k p c)

    only_placed : (x : ℕ) (a : Result ℕ DocketFault) → Placing seat ops k p x a → Only (place x) (to_place a) (joined p x a)
    only_placed x a h =
        let e : a ≡ place_answer seat ops k p x = sym (answer_is seat ops k p x a h) in
        (ap to_place e, ap (joined p x) e)

    only_run : (xs q : List ℕ) (n : ℕ) (s : Option DocketFault) → run_of seat ops k p 0 xs ≡ record { steps = q; new = n; stopped = s } → Only (run xs) (to_run n (code_of s)) q
    only_run xs q n s e = (ap (λ (R : Run). to_run R.new (code_of R.stopped)) (sym e), ap (λ (R : Run). R.steps) (sym e))

    only_certify : (b w : Buffers) (a : Result Certificate DocketFault) → certify_answer seat ops p b ≡ a → w ≡ written seat ops p b a → Only (certify b) (to_certify a w) p
    only_certify b w a e g = (ap (to_certify a) g ∙ ap (λ (v : Result Certificate DocketFault). to_certify v (written seat ops p b v)) (sym e), refl)

    pub only : {c : Call} {a : Answer} {q : List ℕ} → IsAnswered seat ops k p c a q → Only c a q
    only (placed x r h) = only_placed x (Ok r) h
    only (refused x e h) = only_placed x (Err e) h
    only (ran xs h) = only_run xs (p ++ xs) (length xs) None (ran_is seat ops k xs p h)
    only (ran_until us x vs e h g) = only_run (us ++ (x ∷ vs)) (p ++ us) (length us) (Some e) (ran_until_is seat ops k us p x vs e h g)
    only (lifted q x e) = (ap to_lift (sym (ap lift_answer e ∙ lift_is q x)), sym (ap without_last e ∙ without_last_is q x))
    only (not_lifted e) = (ap to_lift (sym (ap lift_answer e)), e ∙ sym (ap without_last e))
    only (granted b w c G) =
        let g = granted_same seat ops k p b w c G in
        let d : Certificate = certificate_of seat ops p in
        subst (λ (v : Certificate). Only (certify b) (to_certify (Ok v) w) p) (sym g.0) (only_certify b w (Ok d) (true_granted seat ops k p G.order b (false_short (length ops) b G.room)) g.1)
    only (steps_missing b a l z f) =
        only_certify b b (Err (StepsMissing (length p) a))
        (answer_by seat ops p b (Some a) (missing_is seat ops p (Some a) (omega arith, omega arith, eq-eqb (times a p) 0 z, λ c u m. ne_eqb (times c p) 0 (λ e. omega (arith, f c m))))) refl
    only (buffer_short b f s) =
        only_certify b b (Err (BufferTooShort (length ops)))
        (answer_by seat ops p b None (missing_is seat ops p None (λ c u m. ne_eqb (times c p) 0 (λ e. omega (arith, f c (omega arith)))))
        ∙ cond-true (is_too_short (length ops) b) (Err (BufferTooShort (length ops))) (Ok (certificate_of seat ops p)) (true_short (length ops) b s)) refl

  -- ---- the same of lists of calls
  pub session : (calls : List Call) (p : List ℕ) → Placed seat ops k p → Session seat ops k p calls (answers_for seat ops k p calls) (placed_by seat ops k p calls)
  session [] p h = ended p
  session (c ∷ calls) p h = next (is_answered p h c) (session calls (left_by seat ops k p c) (placed_left seat ops k p c h))

  pub no_other : {p : List ℕ} {calls : List Call} {answers : List Answer} {q : List ℕ} → Session seat ops k p calls answers q
      → (answers ≡ answers_for seat ops k p calls) × (q ≡ placed_by seat ops k p calls)
  no_other (ended p) = (refl, refl)
  no_other (next {p} {c} {a} {m} {cs} {more} {q} h s) =
      let o = only p h in
      let g = no_other s in
      let e : m ≡ left_by seat ops k p c = o.1 in (
        ap (λ (v : Answer). v ∷ more) o.0 ∙ ap (λ (l : List Answer). answer_for seat ops k p c ∷ l) (g.0 ∙ ap (λ (l : List ℕ). answers_for seat ops k l cs) e),
        g.1 ∙ ap (λ (l : List ℕ). placed_by seat ops k l cs) e,
      )

  pub placed_append : (before later : List Call) (p : List ℕ) → placed_by seat ops k p (before ++ later) ≡ placed_by seat ops k (placed_by seat ops k p before) later
  placed_append [] later p = refl
  placed_append (c ∷ before) later p = placed_append before later (left_by seat ops k p c)

  pub answers_append : (before later : List Call) (p : List ℕ)
      → answers_for seat ops k p (before ++ later) ≡ answers_for seat ops k p before ++ answers_for seat ops k (placed_by seat ops k p before) later
  answers_append [] later p = refl
  answers_append (c ∷ before) later p = ap (λ (l : List Answer). answer_for seat ops k p c ∷ l) (answers_append before later (left_by seat ops k p c))
