-- The outcome of reading a trace, by what is answered and what the sheet then holds.
use Rattle.std.proofs.Common.{◌≡◌, ℕ, List, Ok, Err, ap, ◌∙◌}
use Rattle.sheet.specs.declared.operation.Operation.{Operation}
use Rattle.trace.specs.declared.fault.EntryFault.{EntryFault}
use Rattle.trace.specs.declared.fault.ReadFault.{ReadFault}
use Rattle.trace.specs.declared.fault.ReadFault.TheVariants.{Frame, Entry}
use Rattle.trace.specs.declared.read.Accepted.{Accepted}
use Rattle.frame.specs.declared.fault.FrameFault.{FrameFault}
use Rattle.trace.specs.Answers.{Said, said, saying_of, read_answer, sheet_after, contents_of}
use Rattle.trace.specs.Contents.{contents}
use Rattle.trace.specs.Reading.{Outcome}
use Rattle.trace.specs.Reading.Outcome.{unread, refused, accepted}

module _ {I : Type 0} where
  -- where the trace is accepted
  pub accepted_as_answered : (o : Outcome I) (old os : List (Operation I)) (a : Accepted) → Ok (said a) ≡ read_answer o → os ≡ sheet_after old o → accepted (contents_of a os) ≡ o
  accepted_as_answered (unread f) old os a e h = absurd (cc)
  accepted_as_answered (refused fs i f) old os a e h = absurd (cc)
  accepted_as_answered (accepted c) old os a e h =
      let q : said a ≡ saying_of c = cc in
      ap (λ (s : Said). accepted (contents s.kind s.k os s.order)) q ∙ ap (λ z. accepted (contents c.kind c.k z c.order)) h

  -- where it is refused: what is the same for each refusal is the same for the outcome
  pub refused_as_answered : {A : Type 0} (F : Outcome I → A) (G : ReadFault → A) → ((f : FrameFault) → F (unread f) ≡ G (Frame f)) →
      ((os : List (Operation I)) (i : ℕ) (f : EntryFault) → F (refused os i f) ≡ G (Entry (record { place = i; fault = f }))) →
      (o : Outcome I) (e : ReadFault) → Err e ≡ read_answer o → F o ≡ G e
  refused_as_answered F G frame entry (unread f) e p = let q : Frame f ≡ e = cc in frame f ∙ ap G q
  refused_as_answered F G frame entry (refused os i f) e p = let q : Entry (record { place = i; fault = f }) ≡ e = cc in entry os i f ∙ ap G q
  refused_as_answered F G frame entry (accepted c) e p = absurd (cc)
