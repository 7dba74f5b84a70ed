-- A step lifted. Assumes nothing.
use Rattle.std.proofs.Common.{◌≡◌, ℕ, ◌+◌, ◌-◌, ◌<◌, false, List, [], ◌∷◌, ◌++◌, map, length, get_or, take, Ok, Err, sym, refl, ap, ◌∙◌, arith}
use Rattle.std.proofs.lemmas.List.{same_from_push, get_or-take, take_all, take_at}
use Rattle.std.proofs.lemmas.Bool.{eq-eqb, ne_eqb, cond-true, cond-false}
use Rattle.giving.specs.Lists.{SeatRule, times}
use Rattle.order.specs.declared.operation.Paired.{Paired}
use Rattle.order.specs.Steps.{operation, rank_error, passes_over, giving_after, rank_errors, lateness, adds_in}
use Rattle.calls.specs.declared.fault.DocketFault.TheVariants.{NothingToLift}
use Rattle.calls.specs.Rules.{lift_answer, without_last}
use Rattle.docket.specs.declared.entry.Entry.{Entry}
use Rattle.docket.specs.declared.step.Step.{Step}
use Rattle.docket.specs.declared.ledger.Ledger.{Ledger}
use Rattle.docket.specs.Kept.{entry_of, numbers_in, ranks_in}
use Rattle.docket.specs.InAgreement.{paired_in, ops_of, steps_of, InAgreement}
use Rattle.holder.specs.Meanings.{Meaning}
use Rattle.docket.specs.Moves.{replayed, with_late, one_less, with_flag, changed_at, changed_all}
use Rattle.docket.proofs.PlacedSteps.{last_step}
use Rattle.order.proofs.Sizes.{passes_held}
use Rattle.order.proofs.Growing.{one_more_step}
use Rattle.docket.proofs.Table.{keeps_one, map_keeps_one, map_keeps_all, late_changed, less_applied}
use Rattle.docket.proofs.HolderSteps.{replayed_held}
use Rattle.docket.proofs.Placing.{long_steps, long_numbers, long_ranks, deeds_agree, agrees_as}

-- what lift answers, and where there is no step also what it leaves
module _ (l : Ledger) where
  pub lift_none : l.placed ≡ 0 → Err NothingToLift ≡ lift_answer (steps_of l)
  lift_none z = sym (cond-true _ _ _ (eq-eqb (length (steps_of l)) 0 (omega (arith, long_steps l))))

  pub lift_none_left : l.placed ≡ 0 → steps_of l ≡ without_last (steps_of l)
  lift_none_left z = sym (take_all (length (steps_of l) - 1) (steps_of l) (omega (arith, long_steps l)))

  pub lift_last : 0 < l.placed → (x : ℕ) → x ≡ get_or (numbers_in l.steps) (l.placed - 1) 0 → Ok x ≡ lift_answer (steps_of l)
  lift_last pos x is =
      let last : get_or (steps_of l) (length (steps_of l) - 1) 0 ≡ x =
      ap (λ (n : ℕ). get_or (steps_of l) (n - 1) 0) (long_steps l) ∙ get_or-take l.placed (numbers_in l.steps) (l.placed - 1) 0 (omega arith) ∙ sym is in
      ap Ok (sym last) ∙ sym (cond-false _ _ _ (ne_eqb (length (steps_of l)) 0 (λ z. omega (arith, long_steps l))))

-- the last step taken out
module _ (seat : SeatRule) (l u : Ledger) (x : ℕ)
    (pos : 0 < l.placed)
    (x-is : x ≡ get_or (numbers_in l.steps) (l.placed - 1) 0)
    (u-es : u.entries ≡ changed_at (with_flag false) l.entries x)
    (u-ss : u.steps ≡ l.steps)
    (u-placed : u.placed ≡ l.placed - 1)
    (u-count : u.count ≡ l.count) where
  u_ops : ops_of u ≡ ops_of l
  u_ops =
      ap (λ (v : ℕ). take v (map paired_in u.entries)) u-count
      ∙ ap (take l.count) (ap (map paired_in) u-es ∙ map_keeps_one paired_in (with_flag false) (λ e. refl) l.entries x)

  u_steps : steps_of u ≡ take (l.placed - 1) (numbers_in l.steps)
  u_steps = ap (λ (v : ℕ). take v (numbers_in u.steps)) u-placed ∙ ap (λ (v : List Step). take (l.placed - 1) (numbers_in v)) u-ss

  l_steps : steps_of l ≡ steps_of u ++ x ∷ []
  l_steps = last_step (numbers_in l.steps) l.placed x pos (omega (arith, long_numbers l)) x-is ∙ ap (λ (v : List ℕ). v ++ x ∷ []) (sym u_steps)

  pub lifted_steps : steps_of u ≡ without_last (steps_of l)
  lifted_steps =
      sym (ap (λ (n : ℕ). take (n - 1) (steps_of l)) (long_steps l) ∙ ap (take (l.placed - 1)) l_steps ∙ take_at (steps_of u) (x ∷ []) (l.placed - 1) (long_steps u ∙ u-placed))

  moved_ops : (es : List Entry) (cs : List ℕ) → es ≡ changed_all (with_late one_less) u.entries cs → take u.count (map paired_in es) ≡ ops_of u
  moved_ops es cs e = ap (take u.count) (ap (map paired_in) e ∙ map_keeps_all paired_in (with_late one_less) (λ e. refl) cs u.entries)

  pub lifted_ops : (es : List Entry) (cs : List ℕ) → es ≡ changed_all (with_late one_less) u.entries cs → take u.count (map paired_in es) ≡ ops_of l
  lifted_ops es cs e = moved_ops es cs e ∙ u_ops

  -- the latenesses changed back, and the steps that are left made on the holder
  module _ (m : Ledger) (L : List ℕ) (n r : ℕ)
      (r_is : r ≡ get_or (ranks_in l.steps) (l.placed - 1) 0)
      (m-es : m.entries ≡ changed_all (with_late one_less) u.entries (take r L))
      (m-ss : m.steps ≡ u.steps)
      (m-placed : m.placed ≡ u.placed)
      (m-count : m.count ≡ u.count)
      (stand : ◌≡◌ {A = Meaning} (record { list = L; count = n }) (replayed seat u.entries (record { list = []; count = 0 }) (steps_of u))) where
    m_to_u : ops_of m ≡ ops_of u
    m_to_u = ap (λ (v : ℕ). take v (map paired_in m.entries)) m-count ∙ moved_ops m.entries (take r L) m-es

    m_steps : steps_of m ≡ steps_of u
    m_steps = ap (λ (v : ℕ). take v (numbers_in m.steps)) m-placed ∙ ap (λ (v : List Step). take u.placed (numbers_in v)) m-ss

    stand_is : ◌≡◌ {A = Meaning} (record { list = L; count = n }) (record { list = giving_after seat (ops_of u) (steps_of u); count = 0 + adds_in (ops_of u) (steps_of u) })
    stand_is = stand ∙ replayed_held seat u.entries (ops_of u) (steps_of u) [] 0 (deeds_agree u) (λ y. omega (arith, u.once y)) (omega (arith, long_steps u))

    l_is : L ≡ giving_after seat (ops_of u) (steps_of u)
    l_is = ap (λ (s : Meaning). s.list) stand_is

    n_is : n ≡ adds_in (ops_of u) (steps_of u)
    n_is = omega (arith, ap (λ (s : Meaning). s.count) stand_is)

    module _ (K : List ℕ) (a : ℕ) (i : InAgreement seat K a l) where
      ranks_are : (take (l.placed - 1) (ranks_in l.steps) ≡ rank_errors seat (ops_of u) (steps_of u)) × (r ≡ rank_error (operation (ops_of u) x).deed (giving_after seat (ops_of u) (steps_of u)))
      ranks_are =
          same_from_push (take (l.placed - 1) (ranks_in l.steps)) (rank_errors seat (ops_of u) (steps_of u)) r (rank_error (operation (ops_of u) x).deed (giving_after seat (ops_of u) (steps_of u)))
          (sym (last_step (ranks_in l.steps) l.placed r pos (omega (arith, long_ranks l)) r_is) ∙ i.errors ∙ ap (rank_errors seat (ops_of l)) l_steps
          ∙ ap (λ (o : List Paired). rank_errors seat o (steps_of u ++ x ∷ [])) (sym u_ops) ∙ (one_more_step seat (ops_of u) (steps_of u) x).errors_by_step)

      lifted_late : (y : ℕ) → y < l.count → (entry_of m.entries y).late ≡ lateness seat (ops_of u) y (steps_of u)
      lifted_late y yn =
          let H : List ℕ = giving_after seat (ops_of u) (steps_of u) in
          let before : (entry_of l.entries y).late ≡ lateness seat (ops_of u) y (steps_of u) + passes_over y (rank_error (operation (ops_of u) x).deed H) H =
          i.lates y yn ∙ ap (lateness seat (ops_of l) y) l_steps ∙ ap (λ (o : List Paired). lateness seat o y (steps_of u ++ x ∷ [])) (sym u_ops) ∙ (one_more_step seat (ops_of u) (steps_of u) x).latenesses y in
          let same : passes_over y (rank_error (operation (ops_of u) x).deed H) H ≡ passes_over y r L = ap (λ (v : ℕ). passes_over y v H) (sym ranks_are.1) ∙ ap (passes_over y r) (sym l_is) in
          let hit = passes_held seat (ops_of u) y r (steps_of u) L l_is (u.once y) in
          let long : y < length u.entries = omega arith in
          let kept : (entry_of u.entries y).late ≡ (entry_of l.entries y).late =
          ap (λ (es : List Entry). (entry_of es y).late) u-es ∙ keeps_one (λ (v : Entry). v.late) (with_flag false) (λ v. refl) l.entries x y in
          let put : (entry_of m.entries y).late ≡ (entry_of u.entries y).late - times y (take r L) =
          ap (λ (es : List Entry). (entry_of es y).late) m-es ∙ late_changed one_less (take r L) u.entries y long ∙ less_applied (times y (take r L)) (entry_of u.entries y).late in
          omega (arith, before, same, hit.0, kept, put)

      pub lifted_agrees : InAgreement seat L n m
      lifted_agrees =
          agrees_as seat m L n (ops_of u) (steps_of u) m_to_u m_steps l_is n_is (λ y yn. lifted_late y (omega (arith, m-count, u-count, yn)))
          (ap (λ (v : ℕ). take v (ranks_in m.steps)) (m-placed ∙ u-placed) ∙ ap (λ (v : List Step). take (l.placed - 1) (ranks_in v)) (m-ss ∙ u-ss) ∙ ranks_are.0)
