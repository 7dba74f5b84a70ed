-- What a docket holds and answers. Assumes nothing.
use Rattle.std.specs.Prelude.{ℕ, List, Result}
use Rattle.order.specs.declared.operation.Paired.{Paired}
use Rattle.holder.specs.declared.holder.Holder.{Ghosts}
use Rattle.calls.specs.declared.fault.DocketFault.{DocketFault}
use Rattle.calls.specs.declared.certificate.Certificate.{Certificate}
use Rattle.calls.specs.Rules.{Run, Buffers, place_answer, run_of, certify_answer, written}
use Rattle.calls.specs.Calls.{Call, Answer, answer_for, left_by, answers_for, placed_by}
use Rattle.docket.specs.declared.docket.Docket.{Docket}
use Rattle.docket.specs.InAgreement.{ops_of, steps_of, InAgreement}

-- the operations, the steps that are placed, and the bound
abbrev pub ops_in : {X : Type 0} {m : Ghosts X} → Docket X m → List Paired
ops_in d = ops_of d.ledger

abbrev pub steps_in : {X : Type 0} {m : Ghosts X} → Docket X m → List ℕ
steps_in d = steps_of d.ledger

abbrev pub bound_in : {X : Type 0} {m : Ghosts X} → Docket X m → ℕ
bound_in d = d.ledger.k

-- m has what a kind of holder means: its giving list, its count of adds and its seat rule
module _ {X : Type 0} (m : Ghosts X) (d : Docket X m) where
  -- the holder, the latenesses and the rank errors are what the placed steps give: the invariant of every docket
  abbrev pub Agreed : Type 0
  Agreed = InAgreement m.seat (m.giving d.holder) (m.adds d.holder) d.ledger

  -- what the rules answer on the steps that are placed: to a place, and to a run
  abbrev pub placing : ℕ → Result ℕ DocketFault
  placing x = place_answer m.seat (ops_in d) (bound_in d) (steps_in d) x

  abbrev pub running : List ℕ → Run
  running xs = run_of m.seat (ops_in d) (bound_in d) (steps_in d) 0 xs

  -- what they answer to a certify, and what is then written
  abbrev pub certifying : Buffers → Result Certificate DocketFault
  certifying b = certify_answer m.seat (ops_in d) (steps_in d) b

  abbrev pub writing : Buffers → Result Certificate DocketFault → Buffers
  writing b r = written m.seat (ops_in d) (steps_in d) b r

  -- the answer to any call and the steps that it leaves, and those of calls in turn
  abbrev pub replying : Call → Answer
  replying c = answer_for m.seat (ops_in d) (bound_in d) (steps_in d) c

  abbrev pub leaving : Call → List ℕ
  leaving c = left_by m.seat (ops_in d) (bound_in d) (steps_in d) c

  abbrev pub replying_all : List Call → List Answer
  replying_all cs = answers_for m.seat (ops_in d) (bound_in d) (steps_in d) cs

  abbrev pub leaving_all : List Call → List ℕ
  leaving_all cs = placed_by m.seat (ops_in d) (bound_in d) (steps_in d) cs
