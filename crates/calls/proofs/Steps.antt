-- Every call leaves placed steps. Assumes nothing.
use Rattle.std.proofs.Common.{◌≡◌, ℕ, zero, suc, ◌+◌, ◌-◌, List, [], ◌∷◌, ◌++◌, length, take, Ok, Err, Result, arith}
use Rattle.giving.specs.Lists.{SeatRule, times}
use Rattle.order.specs.declared.operation.Paired.{Paired}
use Rattle.calls.specs.declared.fault.DocketFault.{DocketFault}
use Rattle.order.specs.Steps.{operation, after_step, giving_from, giving_after}
use Rattle.order.specs.Orders.{Acceptable, PlacedFrom, Placed}
use Rattle.order.proofs.Splits.{same_times}
use Rattle.calls.specs.Rules.{Run, joined, place_answer, unless_refused, run_of}
use Rattle.calls.specs.Calls.{Call, place, run, lift, certify, left_by, placed_by}
use Rattle.calls.specs.Meanings.{Placing}
use Rattle.calls.proofs.Judged.{judged}

module _ (seat : SeatRule) (ops : List Paired) (k : ℕ) where
  placed_more : (p done L T : List ℕ) (x : ℕ) → ((a : ℕ) → times a T ≡ times a done + times a p)
      → PlacedFrom seat ops k done L p → Acceptable ops k T (giving_from seat ops L p) x → PlacedFrom seat ops k done L (p ++ (x ∷ []))
  placed_more [] done L T x e h ok = (same_times seat ops k T done L x (λ a. omega (arith, e a)) ok, tt)
  placed_more (y ∷ p) done L T x e h ok = (h.0, placed_more p (y ∷ done) (after_step seat y (operation ops y).deed L) T x (λ a. omega (arith, e a)) h.1 ok)

  placed_one_more : (p : List ℕ) (x : ℕ) → Placed seat ops k p → Acceptable ops k p (giving_after seat ops p) x → Placed seat ops k (p ++ (x ∷ []))
  placed_one_more p x h ok = placed_more p [] [] p x (λ a. omega arith) h ok

  placed_front : (n : ℕ) (p done L : List ℕ) → PlacedFrom seat ops k done L p → PlacedFrom seat ops k done L (take n p)
  placed_front zero p done L h = tt
  placed_front (suc n) [] done L h = tt
  placed_front (suc n) (x ∷ p) done L h = (h.0, placed_front n p (x ∷ done) (after_step seat x (operation ops x).deed L) h.1)

  placed_run : (xs p : List ℕ) (m : ℕ) → Placed seat ops k p → Placed seat ops k (run_of seat ops k p m xs).steps
  placed_run [] p m h = h
  placed_run (x ∷ xs) p m h =
      let R : Result ℕ DocketFault → Run = λ a. unless_refused p m a (run_of seat ops k (p ++ (x ∷ [])) (suc m) xs) in
      elim (place_answer seat ops k p x) as (λ a. Placing seat ops k p x a → Placed seat ops k (R a).steps)
      [ Ok r ↦ λ g. placed_run xs (p ++ (x ∷ [])) (suc m) (placed_one_more p x h g.0) | Err e ↦ λ g. h ] (judged seat ops k p x)

  pub placed_left : (p : List ℕ) (c : Call) → Placed seat ops k p → Placed seat ops k (left_by seat ops k p c)
  placed_left p (place x) h =
      elim (place_answer seat ops k p x) as (λ a. Placing seat ops k p x a → Placed seat ops k (joined p x a))
      [ Ok r ↦ λ g. placed_one_more p x h g.0 | Err e ↦ λ g. h ] (judged seat ops k p x)
  placed_left p (run xs) h = placed_run xs p 0 h
  placed_left p lift h = placed_front (length p - 1) p [] [] h
  placed_left p (certify b) h = h

  pub placed_all : (calls : List Call) (p : List ℕ) → Placed seat ops k p → Placed seat ops k (placed_by seat ops k p calls)
  placed_all [] p h = h
  placed_all (c ∷ calls) p h = placed_all calls (left_by seat ops k p c) (placed_left p c h)
