-- What is printed of a trace.
use Rattle.std.specs.Prelude.{ℕ, Bool, true, false, List, [], ◌++◌, length, Some, None, Ok, Err, codes, Option, Result}
use Rattle.giving.specs.Lists.{SeatRule}
use Rattle.refusal.specs.declared.Refusal.{Refusal}
use Rattle.refusal.specs.Wording.{refusal_line}
use Rattle.item.specs.declared.item.Item.{Ghosts}
use Rattle.item.specs.Tickets.{ticket_items}
use Rattle.item.specs.Stamps.{stamp_items}
use Rattle.sheet.specs.declared.operation.Operation.{Operation}
use Rattle.frame.specs.Faults.{frame_refusal}
use Rattle.trace.specs.Faults.{entry_refusal}
use Rattle.trace.specs.Reading.{Outcome, reading}
use Rattle.trace.specs.Reading.Outcome.{unread, refused, accepted}
use Rattle.order.specs.declared.operation.Paired.{Paired}
use Rattle.calls.specs.declared.fault.DocketFault.{DocketFault}
use Rattle.calls.specs.declared.fault.DocketFault.TheVariants.{StepsMissing}
use Rattle.calls.specs.Faults.{docket_refusal}
use Rattle.calls.specs.declared.certificate.Certificate.{Certificate}
use Rattle.calls.specs.Rules.{Buffers, run_of, missing, figures_of, certificate_of}
use Rattle.docket.specs.Pairs.{paired_all}
use Rattle.examination.specs.Kinds.{seat_of}
use Rattle.examination.specs.Traces.{by_type}
use Rattle.report.specs.Lines.{lines_of_steps, lines_of_lates, line_of_certified}

-- the line of a refusal, with its line feed
abbrev pub refused_text : Refusal → List ℕ
refused_text r = refusal_line r ++ codes "\n"

-- what is said of a trace: a text, and whether a certificate is granted
pub record Verdict : Type 0 where
  pub text : List ℕ
  pub granted : Bool

-- a refusal's line, which grants nothing
abbrev pub refusing : Refusal → Verdict
refusing r = record { text = refused_text r; granted = false }

module _ {I : Type 0} (os : List (Operation I)) (k : ℕ) (p : List ℕ) where
  -- what is printed of a certificate: the steps of the order, the latenesses of the adds, and the sums
  abbrev pub granting : Certificate → Buffers → Verdict
  granting c b = record { text = lines_of_steps p b.ranks b.instants ++ (lines_of_lates os b.latenesses ++ line_of_certified k c); granted = true }

  -- what is printed of the answer to an order, from the buffers as it left them
  abbrev pub answering : Result Certificate Refusal → Buffers → Verdict
  answering (Ok c) b = granting c b
  answering (Err r) b = refusing r

module _ {I : Type 0} (t : Ghosts I) where
  module _ (seat : SeatRule) (os : List (Operation I)) (k : ℕ) where
    -- the operations, paired
    abbrev pub ops : List Paired
    ops = paired_all t.number os

    -- where every step was accepted: a certificate, unless an operation is missing
    abbrev pub whole : List ℕ → Option ℕ → Verdict
    whole p (Some a) = refusing (docket_refusal (StepsMissing (length p) a))
    whole p None = granting os k p (certificate_of seat ops p) (figures_of seat ops p)

    -- where a step was refused, that refusal
    abbrev pub stopping : List ℕ → Option DocketFault → Verdict
    stopping p (Some e) = refusing (docket_refusal e)
    stopping p None = whole p (missing ops p)

    -- what is said of an order
    abbrev pub verdict_of_order : List ℕ → Verdict
    verdict_of_order p = stopping p (run_of seat ops k [] 0 p).stopped

  -- what is said of the outcome of reading a trace
  abbrev pub saying : Outcome I → Verdict
  saying (unread e) = refusing (frame_refusal e)
  saying (refused os i e) = refusing (entry_refusal i e)
  saying (accepted c) = verdict_of_order (seat_of c.kind) c.ops c.k c.order

-- what is said of a trace, by its item type; there is room for 1,024 operations
abbrev pub report_on : List ℕ → Verdict
report_on bs = by_type bs (saying stamp_items (reading stamp_items 1024 bs)) (saying ticket_items (reading ticket_items 1024 bs))
