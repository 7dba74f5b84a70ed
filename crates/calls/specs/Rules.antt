-- The rules: what place, run, lift and certify answer and write, given the steps p placed before. Assumes nothing.
use Rattle.std.specs.Prelude.{ℕ, zero, suc, ◌-◌, max, Bool, cond, not, ◌&&◌, ◌||◌, List, [], ◌∷◌, ◌++◌, map, length, take, Some, None, Ok, Err, Option, Result, ◌==◌, nat_le, nat_lt, slice_index}
use Rattle.std.specs.List.{sum, range_with_len}
use Rattle.giving.specs.Fronts.{over}
use Rattle.giving.specs.Lists.{SeatRule, times, place}
use Rattle.order.specs.declared.operation.Deed.{Deed}
use Rattle.order.specs.declared.operation.Paired.{Paired}
use Rattle.order.specs.Steps.{operation, has_rank, rank_error, rank_errors, lateness, giving_after}
use Rattle.order.specs.Times.{precedes, earliest}
use Rattle.calls.specs.declared.fault.DocketFault.{DocketFault}
use Rattle.calls.specs.declared.fault.DocketFault.TheVariants.{NoSuchOperation, PlacedAlready, TooEarly, NotHeld, AboveBound, NothingToLift, StepsMissing, BufferTooShort}
use Rattle.calls.specs.declared.certificate.Certificate.{Certificate}

-- the lowest of the n numbers from i on that passes the test
abbrev pub lowest : (ℕ → Bool) → ℕ → ℕ → Option ℕ
lowest t i zero = None
lowest t i (suc n) = cond (t i) (Some i) (lowest t (suc i) n)

-- whether b is not among the steps p
abbrev pub unplaced : List ℕ → ℕ → Bool
unplaced p b = times b p == 0

-- ---- place

-- the lowest-numbered operation that precedes x and is not placed
abbrev pub waits_for : List Paired → List ℕ → ℕ → Option ℕ
waits_for ops p x = lowest (λ b. unplaced p b && precedes ops b x) 0 (length ops)

-- the step after m others is refused as too early for the operation that it waits for, if any, else the answer is a
abbrev pub unless_early : ℕ → Option ℕ → Result ℕ DocketFault → Result ℕ DocketFault
unless_early m (Some b) a = Err (TooEarly m b)
unless_early m None a = a

-- the rank error of a step at the giving list L, where it has one; opened only where a proof names it
unfoldable pub rank_if_any : Deed → List ℕ → Option ℕ
rank_if_any d L = cond (has_rank d L) (Some (rank_error d L)) None

-- after m others, the step is refused where it has no rank error, or one above the bound k
abbrev pub bounded_rank : ℕ → ℕ → Option ℕ → Result ℕ DocketFault
bounded_rank m k None = Err (NotHeld m)
bounded_rank m k (Some r) = cond (nat_lt k r) (Err (AboveBound m r)) (Ok r)

-- the rules in their order, of the step x after m others of n operations, with the bound k: by whether x is placed, by the
-- operation that it waits for, if any, and by its rank error, if it has one; opened only where a proof names it
unfoldable pub judged_answer : ℕ → ℕ → ℕ → ℕ → Bool → Option ℕ → Option ℕ → Result ℕ DocketFault
judged_answer m n x k placed w r = cond (nat_le n x) (Err (NoSuchOperation m)) (cond placed (Err (PlacedAlready m)) (unless_early m w (bounded_rank m k r)))

-- the rank error of x after p, or the first rule that x breaks
abbrev pub place_answer : SeatRule → List Paired → ℕ → List ℕ → ℕ → Result ℕ DocketFault
place_answer seat ops k p x =
    judged_answer (length p) (length ops) x k (not (unplaced p x)) (waits_for ops p x) (rank_if_any (operation ops x).deed (giving_after seat ops p))

-- the steps after it: x joins the end where it was accepted
abbrev pub joined : List ℕ → ℕ → Result ℕ DocketFault → List ℕ
joined p x (Ok r) = p ++ (x ∷ [])
joined p x (Err e) = p

-- ---- run

-- what came of a run: the steps then placed, how many are new, and the refusal that stopped it
pub record Run : Type 0 where
  pub steps : List ℕ
  pub new : ℕ
  pub stopped : Option DocketFault

-- the run stopped by the answer to a step after the steps p, of which m are new, where it is a refusal, else the run R
abbrev pub unless_refused : List ℕ → ℕ → Result ℕ DocketFault → Run → Run
unless_refused p m (Ok r) R = R
unless_refused p m (Err e) R = record { steps = p; new = m; stopped = Some e }

-- the numbers of a list placed one after another until the first refusal; m are new before
abbrev pub run_of : SeatRule → List Paired → ℕ → List ℕ → ℕ → List ℕ → Run
run_of seat ops k p m [] = record { steps = p; new = m; stopped = None }
run_of seat ops k p m (x ∷ xs) = unless_refused p m (place_answer seat ops k p x) (run_of seat ops k (p ++ (x ∷ [])) (suc m) xs)

-- ---- lift

-- the last step
abbrev pub lift_answer : List ℕ → Result ℕ DocketFault
lift_answer p = cond (length p == 0) (Err NothingToLift) (Ok (slice_index p (length p - 1)))

-- the steps but the last
abbrev pub without_last : List ℕ → List ℕ
without_last p = take (length p - 1) p

-- ---- certify

-- the three buffers of a certificate, as a call finds or leaves them
pub record Buffers : Type 0 where
  pub ranks : List ℕ
  pub instants : List ℕ
  pub latenesses : List ℕ

-- three lists over the first entries of three buffers
abbrev pub over_each : Buffers → Buffers → Buffers
over_each xs b = record { ranks = over xs.ranks b.ranks; instants = over xs.instants b.instants; latenesses = over xs.latenesses b.latenesses }

-- the largest of a list, and 0 of none
abbrev pub largest_of : List ℕ → ℕ
largest_of [] = 0
largest_of (x ∷ xs) = max x (largest_of xs)

-- the sum of rank errors, the largest, and the first place where it stands
abbrev pub summed_up : List ℕ → Certificate
summed_up rs = record { total = sum rs; largest = largest_of rs; first = place (largest_of rs) rs }

-- the lowest operation that is not among the steps
abbrev pub missing : List Paired → List ℕ → Option ℕ
missing ops p = lowest (unplaced p) 0 (length ops)

-- whether a buffer has fewer than n entries
abbrev pub is_too_short : ℕ → Buffers → Bool
is_too_short n b = nat_lt (length b.ranks) n || (nat_lt (length b.instants) n || nat_lt (length b.latenesses) n)

-- refused for the operation that is missing, if any, else the answer a
abbrev pub unless_missing : List ℕ → Option ℕ → Result Certificate DocketFault → Result Certificate DocketFault
unless_missing p (Some b) a = Err (StepsMissing (length p) b)
unless_missing p None a = a

module _ (seat : SeatRule) (ops : List Paired) where
  -- the lateness of each operation, in their order
  abbrev pub latenesses_of : List ℕ → List ℕ
  latenesses_of p = map (λ a. lateness seat ops a p) (range_with_len 0 (length ops))

  -- the three lists of a certificate: the rank errors and the instants of the steps, and the latenesses
  abbrev pub figures_of : List ℕ → Buffers
  figures_of p = record { ranks = rank_errors seat ops p; instants = earliest ops p; latenesses = latenesses_of p }

  -- what the certificate of the steps sums up
  abbrev pub certificate_of : List ℕ → Certificate
  certificate_of p = summed_up (rank_errors seat ops p)

  -- refused where steps are missing, else where a buffer is too short
  abbrev pub certify_answer : List ℕ → Buffers → Result Certificate DocketFault
  certify_answer p b = unless_missing p (missing ops p) (cond (is_too_short (length ops) b) (Err (BufferTooShort (length ops))) (Ok (certificate_of p)))

  -- the buffers after it: a refusal leaves them as they were
  abbrev pub written : List ℕ → Buffers → Result Certificate DocketFault → Buffers
  written p b (Err e) = b
  written p b (Ok c) = over_each (figures_of p) b
