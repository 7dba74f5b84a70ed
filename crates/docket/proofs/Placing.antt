-- A docket in agreement stays in agreement, and answers by the rules. Assumes nothing.
use Rattle.std.proofs.Common.{◌≡◌, ℕ, ◌+◌, ◌<◌, ◌≤◌, Bool, true, false, not, ◌&&◌, eqb, ltb, List, [], ◌∷◌, ◌++◌, map, length, get_or, take, set, Some, None, Ok, Option, sym, refl, ap, ◌∙◌, ⊎_elim, arith}
use Rattle.std.specs.List.{AllByRecursion, position}
use Rattle.std.proofs.ByRecursion.{All-from_get_or}
use Rattle.std.proofs.lemmas.List.{take_more_set, length-take-le, length-map, get_or-map, take-map, get_or-take}
use Rattle.std.proofs.lemmas.Bool.{cases_lt, cases_Bool, cond-false}
use Rattle.giving.specs.Lists.{SeatRule, times}
use Rattle.order.specs.declared.operation.Deed.{Deed}
use Rattle.order.specs.declared.operation.Paired.{Paired}
use Rattle.order.specs.Steps.{operation, has_rank, rank_error, after_step, passes_over, giving_after, rank_errors, lateness, items_added, adds_in}
use Rattle.calls.specs.Rules.{lowest, unplaced, waits_for, unless_early, rank_if_any, bounded_rank, judged_answer, place_answer}
use Rattle.docket.specs.declared.entry.Entry.{Entry}
use Rattle.docket.specs.declared.step.Step.{Step}
use Rattle.docket.specs.declared.ledger.Ledger.{Ledger}
use Rattle.docket.specs.Kept.{blank, entry_of, numbers_in, ranks_in}
use Rattle.docket.specs.InAgreement.{paired_in, ops_of, steps_of, errors_of, InAgreement}
use Rattle.holder.specs.Meanings.{Meaning}
use Rattle.docket.specs.Moves.{stepped, waits, with_late, one_more, with_flag, changed_at, changed_all}
use Rattle.docket.proofs.PlacedSteps.{lowest_position, lowest_ext, unflagged, room}
use Rattle.docket.proofs.Judged.{judged_in, judged_beyond}
use Rattle.order.proofs.Sizes.{held_times, passes_held, adds_le, late_le}
use Rattle.order.proofs.Growing.{one_more_step}
use Rattle.docket.proofs.Table.{op_at, length_ops, keeps_one, map_keeps_one, map_keeps_all, late_changed, more_applied}
use Rattle.docket.proofs.HolderSteps.{DeedAgrees, stepped_after}

-- ---- what holds of every ledger
-- what stands past the last step
abbrev pub no_step : Step
no_step = record { operation = 0; rank = 0 }

module _ (l : Ledger) where
  pub long_numbers : length (numbers_in l.steps) ≡ 1024
  long_numbers = length-map l.steps (λ s. s.operation) ∙ l.lengths.1

  pub long_ranks : length (ranks_in l.steps) ≡ 1024
  long_ranks = length-map l.steps (λ s. s.rank) ∙ l.lengths.1

  pub long_steps : length (steps_of l) ≡ l.placed
  long_steps = length-take-le l.placed (numbers_in l.steps) (omega (arith, long_numbers))

  -- an operation that is not flagged is not among the steps, and leaves room for one
  pub unmarked : (x : ℕ) → x < l.count → (entry_of l.entries x).placed ≡ false → times x (steps_of l) ≡ 0
  unmarked x h f = unflagged _ _ (l.flagged x h) f

  pub has_room : (x : ℕ) → x < l.count → (entry_of l.entries x).placed ≡ false → l.placed < l.count
  has_room x h f = room l.count l.placed x (numbers_in l.steps) (omega (arith, long_numbers)) l.known l.once h (unmarked x h f)

  -- the step at a place
  pub number_at : (i : ℕ) → i < 1024 → (get_or l.steps i no_step).operation ≡ get_or (numbers_in l.steps) i 0
  number_at i h = sym (get_or-map (λ (s : Step). s.operation) l.steps i no_step 0 (omega arith))

  -- the placed steps
  module _ (order : List Step) (is : order ≡ take l.placed l.steps) where
    order_numbers : numbers_in order ≡ steps_of l
    order_numbers = ap numbers_in is ∙ sym (take-map (λ (s : Step). s.operation) l.placed l.steps)

    pub order_ranks : ranks_in order ≡ take l.placed (ranks_in l.steps)
    order_ranks = ap ranks_in is ∙ sym (take-map (λ (s : Step). s.rank) l.placed l.steps)

    pub order_at : (i : ℕ) → i < l.placed → (get_or order i no_step).operation ≡ get_or (steps_of l) i 0
    order_at i h =
        let long : length order ≡ l.placed = ap (length {A = Step}) is ∙ length-take-le l.placed l.steps (omega arith) in
        sym (get_or-map (λ (s : Step). s.operation) order i no_step 0 (omega arith)) ∙ ap (λ (v : List ℕ). get_or v i 0) order_numbers

    pub order_known : (i : ℕ) → i < l.placed → (get_or order i no_step).operation < l.count
    order_known i h = omega (arith, order_at i h, get_or-take l.placed (numbers_in l.steps) i 0 h, l.known i h)

  -- the lowest operation whose entry passes a test
  pub lowest_in_table : (p : Entry → Bool) (table : List Entry) → table ≡ take l.count l.entries → position p table ≡ lowest (λ b. p (entry_of l.entries b)) 0 l.count
  lowest_in_table p table is =
      let long : length table ≡ l.count = ap (length {A = Entry}) is ∙ length-take-le l.count l.entries (omega arith) in
      lowest_position (λ b. p (entry_of l.entries b)) p table l.count long
      (λ k h. ap p (sym (ap (λ (es : List Entry). entry_of es k) is ∙ get_or-take l.count l.entries k blank h)))

  pub op_is : (x : ℕ) → x < l.count → operation (ops_of l) x ≡ paired_in (entry_of l.entries x)
  op_is x h = op_at l.entries l.count x (omega arith) h

  pub long_ops : length (ops_of l) ≡ l.count
  long_ops = length_ops l.entries l.count (omega arith)

  pub deeds_agree : AllByRecursion (DeedAgrees (λ L c. 0) l.entries (ops_of l)) (steps_of l)
  deeds_agree =
      All-from_get_or (DeedAgrees (λ L c. 0) l.entries (ops_of l)) (steps_of l) 0
      (λ i h.
      let im : i < l.placed = omega (arith, long_steps) in
      let e = get_or-take l.placed (numbers_in l.steps) i 0 im in
      let xn : get_or (steps_of l) i 0 < l.count = omega (arith, e, l.known i im) in
      (omega arith, sym (ap (λ (o : Paired). o.deed) (op_is (get_or (steps_of l) i 0) xn))))

-- a ledger with no step is in agreement with a holder that was cleared
pub opened_agrees : (seat : SeatRule) (l : Ledger) (L : List ℕ) (n : ℕ) → l.placed ≡ 0 → ((x : ℕ) → (entry_of l.entries x).late ≡ 0) → L ≡ [] → n ≡ 0 → InAgreement seat L n l
opened_agrees seat l L n z late empty none =
    let no : steps_of l ≡ [] = ap (λ (m : ℕ). take m (numbers_in l.steps)) z in
    record {
      gives = empty ∙ sym (ap (giving_after seat (ops_of l)) no);
      added = none ∙ sym (ap (adds_in (ops_of l)) no);
      lates = (λ x h. late x ∙ sym (ap (lateness seat (ops_of l) x) no));
      errors = ap (λ (m : ℕ). take m (ranks_in l.steps)) z ∙ sym (ap (rank_errors seat (ops_of l)) no);
    }

-- ---- the rules
pub not_not : (b : Bool) → not (not b) ≡ b
not_not true = refl
not_not false = refl

module _ (seat : SeatRule) (l : Ledger) (L : List ℕ) (n x : ℕ) (i : InAgreement seat L n l) where
  waits_same : x < l.count → lowest (waits l.entries (entry_of l.entries x).paired.start) 0 l.count ≡ waits_for (ops_of l) (steps_of l) x
  waits_same h =
      let s : (entry_of l.entries x).paired.start ≡ (operation (ops_of l) x).start = sym (ap (λ (o : Paired). o.start) (op_is l x h)) in
      lowest_ext (waits l.entries (entry_of l.entries x).paired.start) (λ b. eqb (times b (steps_of l)) 0 && ltb (operation (ops_of l) b).end (operation (ops_of l) x).start) 0 l.count
      (λ b bl.
      let bn : b < l.count = omega arith in
      let f : not (entry_of l.entries b).placed ≡ eqb (times b (steps_of l)) 0 = ap not (l.flagged b bn) ∙ not_not (eqb (times b (steps_of l)) 0) in
      let e : (entry_of l.entries b).paired.end ≡ (operation (ops_of l) b).end = sym (ap (λ (o : Paired). o.end) (op_is l b bn)) in
      ap (λ (v : Bool). v && ltb (entry_of l.entries b).paired.end (entry_of l.entries x).paired.start) f
      ∙ ap (λ (v : ℕ). eqb (times b (steps_of l)) 0 && ltb v (entry_of l.entries x).paired.start) e
      ∙ ap (λ (v : ℕ). eqb (times b (steps_of l)) 0 && ltb (operation (ops_of l) b).end v) s)
      ∙ ap (λ (m : ℕ). lowest (λ b. eqb (times b (steps_of l)) 0 && ltb (operation (ops_of l) b).end (operation (ops_of l) x).start) 0 m) (sym (long_ops l))

  pub judged_is : judged_answer l.placed l.count x l.k (entry_of l.entries x).placed (lowest (waits l.entries (entry_of l.entries x).paired.start) 0 l.count) (rank_if_any (entry_of l.entries x).paired.deed L)
      ≡ place_answer seat (ops_of l) l.k (steps_of l) x
  judged_is =
      let b = (entry_of l.entries x).placed in
      let w = lowest (waits l.entries (entry_of l.entries x).paired.start) 0 l.count in
      let d = (entry_of l.entries x).paired.deed in
      let k = l.k in
      let p = steps_of l in
      let H = giving_after seat (ops_of l) p in
      let b' = not (unplaced p x) in
      let w' = waits_for (ops_of l) p x in
      let d' = (operation (ops_of l) x).deed in
      let n' = length (ops_of l) in
      ap (λ (m : ℕ). judged_answer m l.count x k b w (rank_if_any d L)) (sym (long_steps l))
      ∙ ap (λ (m : ℕ). judged_answer (length p) m x k b w (rank_if_any d L)) (sym (long_ops l))
      ∙ ap (λ (G : List ℕ). judged_answer (length p) n' x k b w (rank_if_any d G)) i.gives
      ∙ ⊎_elim
      (λ (h : x < l.count).
      ap (λ (v : Bool). judged_answer (length p) n' x k v w (rank_if_any d H)) (l.flagged x h)
      ∙ ap (λ (v : Option ℕ). judged_answer (length p) n' x k b' v (rank_if_any d H)) (waits_same h)
      ∙ ap (λ (v : Deed). judged_answer (length p) n' x k b' w' (rank_if_any v H)) (sym (ap (λ (o : Paired). o.deed) (op_is l x h))))
      (λ (h : l.count ≤ x).
      let g : n' ≤ x = omega (arith, long_ops l) in
      sym (judged_beyond (length p) n' x k b w (rank_if_any d H) g) ∙ judged_beyond (length p) n' x k b' w' (rank_if_any d' H) g)
      (cases_lt x l.count)

-- an accepted step was answered its rank error
rank_of_answered : (m k : ℕ) (w : Option ℕ) (d : Deed) (L : List ℕ) (v : ℕ) → Ok v ≡ unless_early m w (bounded_rank m k (rank_if_any d L)) → v ≡ rank_error d L
unfolding rank_if_any
rank_of_answered m k (Some b) d L v e = let z : ◌≡◌ {A = ℕ} 0 1 = cc in absurd (omega arith)
rank_of_answered m k None d L v e =
    ⊎_elim
    (λ (t : has_rank d L ≡ true).
    ⊎_elim
    (λ (u : ltb k (rank_error d L) ≡ true). let f = rw (t, u) at e in let z : ◌≡◌ {A = ℕ} 0 1 = cc in absurd (omega arith))
    (λ (u : ltb k (rank_error d L) ≡ false). let f = rw (t, u) at e in cc)
    (cases_Bool (ltb k (rank_error d L))))
    (λ (t : has_rank d L ≡ false). let f = rw t at e in let z : ◌≡◌ {A = ℕ} 0 1 = cc in absurd (omega arith))
    (cases_Bool (has_rank d L))

pub judged_rank_is : (m n x k : ℕ) (b : Bool) (w : Option ℕ) (d : Deed) (L : List ℕ) (v : ℕ) → x < n → b ≡ false → Ok v ≡ judged_answer m n x k b w (rank_if_any d L) → v ≡ rank_error d L
judged_rank_is m n x k b w d L v h f e = rank_of_answered m k w d L v (e ∙ judged_in m n x k b w (rank_if_any d L) h ∙ cond-false b _ _ f)

-- ---- an agreement, by the operations and the steps that a ledger is known to have
pub agrees_as : (seat : SeatRule) (l : Ledger) (L : List ℕ) (n : ℕ) (ops : List Paired) (p : List ℕ) → ops_of l ≡ ops → steps_of l ≡ p → L ≡ giving_after seat ops p → n ≡ adds_in ops p
    → ((y : ℕ) → y < l.count → (entry_of l.entries y).late ≡ lateness seat ops y p) → errors_of l ≡ rank_errors seat ops p → InAgreement seat L n l
agrees_as seat l L n ops p o s g a late e = record {
  gives = g ∙ ap (giving_after seat ops) (sym s) ∙ ap (λ (v : List Paired). giving_after seat v (steps_of l)) (sym o);
  added = a ∙ ap (adds_in ops) (sym s) ∙ ap (λ (v : List Paired). adds_in v (steps_of l)) (sym o);
  lates = λ y h. late y h ∙ ap (lateness seat ops y) (sym s) ∙ ap (λ (v : List Paired). lateness seat v y (steps_of l)) (sym o);
  errors = e ∙ ap (rank_errors seat ops) (sym s) ∙ ap (λ (v : List Paired). rank_errors seat v (steps_of l)) (sym o);
}

-- ---- a step placed
module _ (seat : SeatRule) (l m : Ledger) (L : List ℕ) (x r : ℕ)
    (xn : x < l.count) (off : (entry_of l.entries x).placed ≡ false)
    (es-is : m.entries ≡ changed_at (with_flag true) (changed_all (with_late one_more) l.entries (take r L)) x)
    (ss-is : numbers_in m.steps ≡ set (numbers_in l.steps) l.placed x)
    (rs-is : ranks_in m.steps ≡ set (ranks_in l.steps) l.placed r)
    (placed-is : m.placed ≡ l.placed + 1)
    (count_is : m.count ≡ l.count) where
  new : times x (steps_of l) ≡ 0
  new = unmarked l x xn off

  fits : l.placed < l.count
  fits = has_room l x xn off

  pub placed_ops : ops_of m ≡ ops_of l
  placed_ops =
      ap (λ (n : ℕ). take n (map paired_in m.entries)) count_is
      ∙ ap (take l.count) (ap (map paired_in) es-is ∙ map_keeps_one paired_in (with_flag true) (λ e. refl) (changed_all (with_late one_more) l.entries (take r L)) x ∙ map_keeps_all paired_in (with_late one_more) (λ e. refl) (take r L) l.entries)

  placed_steps : steps_of m ≡ steps_of l ++ x ∷ []
  placed_steps = ap (λ (n : ℕ). take n (numbers_in m.steps)) placed-is ∙ ap (take (l.placed + 1)) ss-is ∙ take_more_set (numbers_in l.steps) l.placed x (omega (arith, fits, long_numbers l))

  module _ (n n' : ℕ) (L' : List ℕ) (i : InAgreement seat L n l)
      (rank_is : r ≡ rank_error (entry_of l.entries x).paired.deed L)
      (stand_is : ◌≡◌ {A = Meaning} (record { list = L'; count = n' }) (stepped seat x (entry_of l.entries x).paired.deed (record { list = L; count = n }))) where
    deed : Deed
    deed = (operation (ops_of l) x).deed

    deed_is : (entry_of l.entries x).paired.deed ≡ deed
    unfolding deed
    deed_is = sym (ap (λ (o : Paired). o.deed) (op_is l x xn))

    once_held : (a : ℕ) → times a L ≤ times a (steps_of l)
    once_held a = omega (arith, ap (times a) i.gives, held_times seat (ops_of l) a (steps_of l) [])

    after_is : ◌≡◌ {A = Meaning} (record { list = L'; count = n' }) (record { list = after_step seat x deed L; count = n + items_added deed })
    after_is =
        stand_is ∙ ap (λ (e : Deed). stepped seat x e (record { list = L; count = n })) deed_is
        ∙ stepped_after seat x deed L n (omega arith) (omega (arith, once_held x, new))
        (omega (arith, i.added, adds_le (ops_of l) (steps_of l), long_steps l, fits))

    r_is : r ≡ rank_error deed (giving_after seat (ops_of l) (steps_of l))
    r_is = rank_is ∙ ap (λ (e : Deed). rank_error e L) deed_is ∙ ap (rank_error deed) i.gives

    placed_late : (y : ℕ) → y < l.count → (entry_of m.entries y).late ≡ lateness seat (ops_of l) y (steps_of l ++ x ∷ [])
    unfolding deed
    placed_late y yn =
        let a = i.lates y yn in
        let b = passes_held seat (ops_of l) y r (steps_of l) L i.gives (l.once y) in
        let e : passes_over y r L ≡ passes_over y (rank_error deed (giving_after seat (ops_of l) (steps_of l))) (giving_after seat (ops_of l) (steps_of l)) =
        ap (λ (v : ℕ). passes_over y v L) r_is ∙ ap (passes_over y (rank_error deed (giving_after seat (ops_of l) (steps_of l)))) i.gives in
        let c = late_le seat (ops_of l) y (steps_of l) [] in
        let k : (entry_of m.entries y).late ≡ (get_or (changed_all (with_late one_more) l.entries (take r L)) y blank).late =
        ap (λ (es : List Entry). (entry_of es y).late) es-is ∙ keeps_one (λ (v : Entry). v.late) (with_flag true) (λ v. refl) (changed_all (with_late one_more) l.entries (take r L)) x y in
        let u = late_changed one_more (take r L) l.entries y (omega arith) ∙ more_applied (times y (take r L)) (entry_of l.entries y).late (omega (arith, a, b.1, c, long_steps l)) in
        omega (arith, k, u, a, b.0, e, (one_more_step seat (ops_of l) (steps_of l) x).latenesses y)

    pub placed_agrees : InAgreement seat L' n' m
    unfolding deed
    placed_agrees =
        agrees_as seat m L' n' (ops_of l) (steps_of l ++ x ∷ []) placed_ops placed_steps
        (ap (λ (s : Meaning). s.list) after_is ∙ ap (after_step seat x deed) i.gives ∙ sym (one_more_step seat (ops_of l) (steps_of l) x).giving)
        (ap (λ (s : Meaning). s.count) after_is ∙ ap (λ (v : ℕ). v + items_added deed) i.added ∙ sym (one_more_step seat (ops_of l) (steps_of l) x).adds)
        (λ y yn. placed_late y (omega (arith, count_is, yn)))
        (ap (λ (v : ℕ). take v (ranks_in m.steps)) placed-is ∙ ap (take (l.placed + 1)) rs-is ∙ take_more_set (ranks_in l.steps) l.placed r (omega (arith, fits, long_ranks l))
        ∙ ap (λ (v : List ℕ). v ++ r ∷ []) i.errors ∙ ap (λ (v : ℕ). rank_errors seat (ops_of l) (steps_of l) ++ v ∷ []) r_is ∙ sym (one_more_step seat (ops_of l) (steps_of l) x).errors_by_step)
