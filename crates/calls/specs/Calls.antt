-- Lists of calls: what each call answers, and which steps it leaves placed. Assumes nothing.
use Rattle.std.specs.Prelude.{ℕ, List, [], ◌∷◌, Result}
use Rattle.giving.specs.Lists.{SeatRule}
use Rattle.order.specs.declared.operation.Paired.{Paired}
use Rattle.calls.specs.declared.fault.DocketFault.{DocketFault}
use Rattle.calls.specs.declared.fault.RefusalCode.{RefusalCode}
use Rattle.calls.specs.declared.certificate.Certificate.{Certificate}
use Rattle.calls.specs.Faults.{code_of}
use Rattle.calls.specs.Rules.{place_answer, joined, run_of, lift_answer, without_last, Buffers, certify_answer, written}

-- the calls on an open docket
pub data Call : Type 0 where
  place : ℕ → Call
  run : List ℕ → Call
  lift : Call
  certify : Buffers → Call

-- what it answers; the buffers are those that certify leaves
pub data Answer : Type 0 where
  to_place : Result ℕ DocketFault → Answer
  to_run : ℕ → RefusalCode → Answer
  to_lift : Result ℕ DocketFault → Answer
  to_certify : Result Certificate DocketFault → Buffers → Answer

module _ (seat : SeatRule) (ops : List Paired) (k : ℕ) where
  -- the answer to a call on the steps p
  abbrev pub answer_for : List ℕ → Call → Answer
  answer_for p (place x) = to_place (place_answer seat ops k p x)
  answer_for p (run xs) = to_run (run_of seat ops k p 0 xs).new (code_of (run_of seat ops k p 0 xs).stopped)
  answer_for p lift = to_lift (lift_answer p)
  answer_for p (certify b) = to_certify (certify_answer seat ops p b) (written seat ops p b (certify_answer seat ops p b))

  -- the steps placed after it
  abbrev pub left_by : List ℕ → Call → List ℕ
  left_by p (place x) = joined p x (place_answer seat ops k p x)
  left_by p (run xs) = (run_of seat ops k p 0 xs).steps
  left_by p lift = without_last p
  left_by p (certify b) = p

  -- the answers to a list of calls, from the steps p on
  abbrev pub answers_for : List ℕ → List Call → List Answer
  answers_for p [] = []
  answers_for p (c ∷ cs) = answer_for p c ∷ answers_for (left_by p c) cs

  -- the steps placed after them
  abbrev pub placed_by : List ℕ → List Call → List ℕ
  placed_by p [] = p
  placed_by p (c ∷ cs) = placed_by (left_by p c) cs
