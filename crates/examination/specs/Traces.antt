-- What the examination of a trace comes to, from its bytes to a certificate or the first rule that is broken.
use Rattle.std.specs.Prelude.{◌≡◌, ℕ, ◌/◌, cond, ◌⊎◌, List, length, Err, Result, ◌==◌, slice_index}
use Rattle.std.proofs.Common.{inl, inr}
use Rattle.refusal.specs.declared.Refusal.{Refusal}
use Rattle.item.specs.declared.item.Item.{Ghosts}
use Rattle.item.specs.Tickets.{ticket_items}
use Rattle.item.specs.Stamps.{stamp_items}
use Rattle.frame.specs.Faults.{frame_refusal}
use Rattle.trace.specs.Faults.{entry_refusal}
use Rattle.trace.specs.Contents.{Contents, Sound, encode}
use Rattle.trace.specs.Reading.{Outcome, reading}
use Rattle.trace.specs.Reading.Outcome.{unread, refused, accepted}
use Rattle.order.specs.Orders.{TrueOrder}
use Rattle.calls.specs.declared.certificate.Certificate.{Certificate}
use Rattle.calls.specs.Meanings.{Granted}
use Rattle.calls.specs.Rules.{Buffers}
use Rattle.docket.specs.Pairs.{paired_all}
use Rattle.examination.specs.Kinds.{seat_of}
use Rattle.examination.specs.Orders.{order_answer, order_written}

-- what the examination of a trace comes to: the answer, and the buffers afterwards
pub record Examined : Type 0 where
  pub answer : Result Certificate Refusal
  pub buffers : Buffers

module _ {I : Type 0} (t : Ghosts I) (b : Buffers) where
  -- from the outcome of reading: a refusal of the frame or of a record writes nothing
  abbrev pub examining : Outcome I → Examined
  examining (unread e) = record { answer = Err (frame_refusal e); buffers = b }
  examining (refused os i e) = record { answer = Err (entry_refusal i e); buffers = b }
  examining (accepted c) = record {
    answer = order_answer (seat_of c.kind) (paired_all t.number c.ops) c.k c.order b;
    buffers = order_written (seat_of c.kind) (paired_all t.number c.ops) c.k c.order b;
  }

-- the item type that a header names; 0 where there is none
abbrev pub type_of : List ℕ → ℕ
type_of bs = slice_index bs 1 / 16

-- type 1 is that of stamps; every other trace goes to tickets
abbrev pub by_type : {A : Type 0} → List ℕ → A → A → A
by_type bs stamps tickets = cond (type_of bs == 1) stamps tickets

-- there is room for 1,024 operations
abbrev pub examination_of : List ℕ → Buffers → Examined
examination_of bs b = by_type bs (examining stamp_items b (reading stamp_items 1024 bs)) (examining ticket_items b (reading ticket_items 1024 bs))

-- the bytes of a trace whose contents are sound, and whose order is a true order of its operations for its kind and its k
pub record TrueTrace {I : Type 0} (t : Ghosts I) (bs : List ℕ) : Type 0 where
  pub contents : Contents I
  pub sound : Sound t 1024 contents
  pub bytes : bs ≡ encode t contents
  pub order : TrueOrder (seat_of contents.kind) (paired_all t.number contents.ops) contents.k contents.order

-- the bytes of a true trace, of tickets or of stamps
abbrev pub TrueTraceOfEither : List ℕ → Type 0
TrueTraceOfEither bs = TrueTrace ticket_items bs ⊎ TrueTrace stamp_items bs

-- how many operations it has
abbrev pub count_of : {bs : List ℕ} → TrueTraceOfEither bs → ℕ
count_of (inl h) = length h.contents.ops
count_of (inr h) = length h.contents.ops

-- a true trace, with the certificate c of its order, and the buffers b before it and w after it
pub record Certified {I : Type 0} (t : Ghosts I) (bs : List ℕ) (b : Buffers) (c : Certificate) (w : Buffers) : Type 0 where
  pub trace : TrueTrace t bs
  pub granted : Granted (seat_of trace.contents.kind) (paired_all t.number trace.contents.ops) trace.contents.k trace.contents.order b c w

-- of tickets or of stamps
abbrev pub CertifiedOfEither : List ℕ → Buffers → Certificate → Buffers → Type 0
CertifiedOfEither bs b c w = Certified ticket_items bs b c w ⊎ Certified stamp_items bs b c w
