-- What the examination of an order comes to, from nothing placed to a certificate or the first rule that is broken.
use Rattle.std.specs.Prelude.{ℕ, List, [], Some, None, Ok, Err, Option, Result}
use Rattle.giving.specs.Lists.{SeatRule}
use Rattle.refusal.specs.declared.Refusal.{Refusal}
use Rattle.order.specs.declared.operation.Paired.{Paired}
use Rattle.calls.specs.declared.fault.DocketFault.{DocketFault}
use Rattle.calls.specs.declared.certificate.Certificate.{Certificate}
use Rattle.calls.specs.Faults.{docket_refusal}
use Rattle.calls.specs.Rules.{Buffers, run_of, certify_answer, written}

-- what stopped the run, if anything, else the answer to certify
abbrev pub unless_stopped : Option DocketFault → Result Certificate DocketFault → Result Certificate DocketFault
unless_stopped (Some e) a = Err e
unless_stopped None a = a

-- a docket's answer with its fault as a refusal
abbrev pub refused_as : Result Certificate DocketFault → Result Certificate Refusal
refused_as (Ok c) = Ok c
refused_as (Err e) = Err (docket_refusal e)

module _ (seat : SeatRule) (ops : List Paired) (k : ℕ) (p : List ℕ) (b : Buffers) where
  -- the order p is placed from its first step, and certified where every step was accepted
  abbrev pub order_outcome : Result Certificate DocketFault
  order_outcome = unless_stopped (run_of seat ops k [] 0 p).stopped (certify_answer seat ops p b)

  -- the same with a refusal by its layer and numbers
  abbrev pub order_answer : Result Certificate Refusal
  order_answer = refused_as order_outcome

  -- the buffers afterwards: a refusal leaves them as they were
  abbrev pub order_written : Buffers
  order_written = written seat ops p b order_outcome
