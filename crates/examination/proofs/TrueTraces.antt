-- A certificate is granted exactly to the bytes of a true trace.
use Rattle.std.proofs.Common.{◌≡◌, ℕ, ◌<◌, Bool, true, false, cond, List, length, is_ok, IfOk, Ok, Err, Result, ◌==◌, sym, refl, ap, ◌∙◌, subst, inl, inr, arith, rules}
use Rattle.std.proofs.lemmas.Bool.Decides.{nat_tests}
use lib.ListN.{length-map}
use Rattle.item.specs.declared.item.Item.{Ghosts}
use Rattle.item.specs.Items.{Lawful}
use Rattle.item.specs.Tickets.{ticket_items}
use Rattle.item.specs.Stamps.{stamp_items}
use Rattle.item.specs.StampNumbers.{stamp_there, stamp_back}
use Rattle.record.specs.Bytes.{Bytes, bytes_of_number}
use Rattle.trace.specs.Reading.{Outcome, reading}
use Rattle.trace.specs.Reading.Outcome.{unread, refused, accepted}
use Rattle.trace.proofs.Readings.{reading_back, reading_there}
use Rattle.refusal.specs.declared.Refusal.{Refusal}
use Rattle.order.specs.Orders.{TrueOrder}
use Rattle.calls.specs.declared.certificate.Certificate.{Certificate}
use Rattle.calls.specs.Meanings.{Granted}
use Rattle.calls.specs.Rules.{Buffers, is_too_short}
use Rattle.docket.specs.Pairs.{paired_all, paired_of}
use Rattle.examination.specs.Kinds.{seat_of}
use Rattle.examination.specs.Traces.{Examined, examining, type_of, by_type, examination_of, TrueTrace, TrueTraceOfEither, count_of, Certified, CertifiedOfEither}
use Rattle.examination.proofs.Grants.{granted_is_true, true_is_granted, certificate_is_true}

pub lawful_tickets : Lawful ticket_items
lawful_tickets = record { coded = search rules; small = search rules; there = search rules; back = search rules }

pub lawful_stamps : Lawful stamp_items
lawful_stamps = record { coded = search rules; small = search rules; there = stamp_there; back = stamp_back }

module _ {I : Type 0} (t : Ghosts I) where
  -- a true trace has a header that names its item type
  type_of_true : t.TYPE < 16 → (bs : List ℕ) → TrueTrace t bs → type_of bs ≡ t.TYPE
  unfolding bytes_of_number
  type_of_true low bs h =
      let c = h.contents in
      let kind = h.sound.kind in
      ap type_of h.bytes ∙ omega arith

  -- a trace is accepted, and its order is true
  abbrev pub TrueOutcome : Outcome I → Type 0
  TrueOutcome (unread e) = ⊥
  TrueOutcome (refused os i e) = ⊥
  TrueOutcome (accepted c) = TrueOrder (seat_of c.kind) (paired_all t.number c.ops) c.k c.order

  module _ (law : Lawful t) (bs : List ℕ) where
    true_of : Bytes bs → (o : Outcome I) → reading t 1024 bs ≡ o → TrueOutcome o → TrueTrace t bs
    true_of bytes (unread e) r h = absurd h
    true_of bytes (refused os i e) r h = absurd h
    true_of bytes (accepted c) r h =
        let right = reading_back t law 1024 bs c bytes r in
        record { contents = c; sound = right.sound; bytes = right.bytes; order = h }

    pub true_of_outcome : Bytes bs → TrueOutcome (reading t 1024 bs) → TrueTrace t bs
    true_of_outcome bytes h = true_of bytes (reading t 1024 bs) refl h

    read_of_true : (h : TrueTrace t bs) → reading t 1024 bs ≡ accepted h.contents
    read_of_true h = reading_there t law 1024 bs h.contents h.sound h.bytes

    pub outcome_of_true : TrueTrace t bs → TrueOutcome (reading t 1024 bs)
    outcome_of_true h = subst TrueOutcome (sym (read_of_true h)) h.order

    module _ (b : Buffers) where
      -- with an entry for each operation in each buffer, a true trace is granted a certificate
      true_granted : (h : TrueTrace t bs) → is_too_short (length h.contents.ops) b ≡ false → is_ok (examining t b (reading t 1024 bs)).answer ≡ true
      true_granted h long =
          let c = h.contents in
          let n : length (paired_all t.number c.ops) ≡ length c.ops = length-map c.ops (paired_of t.number c.ops) in
          ap (λ o. is_ok (examining t b o).answer) (read_of_true h)
          ∙ true_is_granted (seat_of c.kind) (paired_all t.number c.ops) c.k c.order b (ap (λ m. is_too_short m b) n ∙ long) h.order

  -- and none is granted but for a true order
  granted_true : (b : Buffers) (o : Outcome I) → is_ok (examining t b o).answer ≡ true → TrueOutcome o
  granted_true b (unread e) h = absurd (cc)
  granted_true b (refused os i e) h = absurd (cc)
  granted_true b (accepted c) h = granted_is_true (seat_of c.kind) (paired_all t.number c.ops) c.k c.order b h

-- a true trace is one of this item type, and has as many operations as such, and so has its certificate
pub record IsOfType {I : Type 0} (t : Ghosts I) (bs : List ℕ) : Type 0 where
  pub either : TrueTrace t bs → TrueTraceOfEither bs
  pub count : (g : TrueTrace t bs) → count_of (either g) ≡ length g.contents.ops
  pub only : (h : TrueTraceOfEither bs) → (g : TrueTrace t bs) × (h ≡ either g)
  pub certificate : (b : Buffers) (c : Certificate) (w : Buffers) → Certified t bs b c w → CertifiedOfEither bs b c w

-- a trace of stamps is none of tickets, and the other way round: its header names its item type
only_stamps : (bs : List ℕ) → type_of bs ≡ 1 → (h : TrueTraceOfEither bs) → (g : TrueTrace stamp_items bs) × (h ≡ inr g)
only_stamps bs one (inl h) = absurd (omega (arith, type_of_true ticket_items (omega arith) bs h))
only_stamps bs one (inr h) = (h, refl)

only_tickets : (bs : List ℕ) → (type_of bs ≡ 1 → ⊥) → (h : TrueTraceOfEither bs) → (g : TrueTrace ticket_items bs) × (h ≡ inl g)
only_tickets bs other (inl h) = (h, refl)
only_tickets bs other (inr h) = absurd (other (type_of_true stamp_items (omega arith) bs h))

pub of_stamps : (bs : List ℕ) → type_of bs ≡ 1 → IsOfType stamp_items bs
of_stamps bs one = record { either = λ g. inr g; count = λ g. refl; only = only_stamps bs one; certificate = λ b c w h. inr h }

pub of_tickets : (bs : List ℕ) → (type_of bs ≡ 1 → ⊥) → IsOfType ticket_items bs
of_tickets bs other = record { either = λ g. inl g; count = λ g. refl; only = only_tickets bs other; certificate = λ b c w h. inl h }

-- an answer that is the examination's is a certificate exactly for the bytes of a true trace
pub answered_exactly : {I : Type 0} (t : Ghosts I) → Lawful t → (bs : List ℕ) → Bytes bs → IsOfType t bs → (b : Buffers) (r : Result Certificate Refusal) →
    r ≡ (examining t b (reading t 1024 bs)).answer →
    (is_ok r ≡ true → TrueTraceOfEither bs) × ((h : TrueTraceOfEither bs) → is_too_short (count_of h) b ≡ false → is_ok r ≡ true)
answered_exactly t law bs bytes type b r e =
    let o = reading t 1024 bs in (
      λ ok. type.either (true_of_outcome t law bs bytes (granted_true t b o (sym (ap is_ok e) ∙ ok))),
      λ h long.
          let g = type.only h in
          let n : count_of h ≡ length g.0.contents.ops = ap (λ k. count_of k) g.1 ∙ type.count g.0 in
          ap is_ok e ∙ true_granted t law bs b g.0 (sym (ap (λ m. is_too_short m b) n) ∙ long),
    )

module _ {I : Type 0} (t : Ghosts I) (law : Lawful t) (bs : List ℕ) (bytes : Bytes bs) (b w : Buffers) where
  certified : (o : Outcome I) → reading t 1024 bs ≡ o → (c : Certificate) → (examining t b o).answer ≡ Ok c → w ≡ (examining t b o).buffers → Certified t bs b c w
  certified (unread e) r c h v = absurd (cc)
  certified (refused os i e) r c h v = absurd (cc)
  certified (accepted a) r c h v =
      let right = reading_back t law 1024 bs a bytes r in
      let seat = seat_of a.kind in
      let ops = paired_all t.number a.ops in
      let g = subst (λ z. Granted seat ops a.k a.order b c z) (sym v) (certificate_is_true seat ops a.k a.order b c h) in
      record { trace = record { contents = a; sound = right.sound; bytes = right.bytes; order = g.order }; granted = g }

  -- what a certificate says is true of the trace
  pub answer_certified : IsOfType t bs → (r : Result Certificate Refusal) → r ≡ (examining t b (reading t 1024 bs)).answer → w ≡ (examining t b (reading t 1024 bs)).buffers →
      IfOk r (λ c. CertifiedOfEither bs b c w)
  answer_certified type (Ok c) e v = type.certificate b c w (certified (reading t 1024 bs) refl c (sym e) v)
  answer_certified type (Err f) e v = tt

-- what holds of a value by each item type, lawful and that of a trace, holds of the value by the type that its header names
module _ {A : Type 0} (value : (I : Type 0) → Ghosts I → A) (P : A → Type 0) (bs : List ℕ) (each : (I : Type 0) (t : Ghosts I) → Lawful t → IsOfType t bs → P (value I t)) where
  by_test : (stamps : Bool) → (type_of bs == 1) ≡ stamps → P (cond stamps (value _ stamp_items) (value _ ticket_items))
  by_test true e =
      let one : type_of bs ≡ 1 = grind (arith, nat_tests) in
      each _ stamp_items lawful_stamps (of_stamps bs one)
  by_test false e =
      let other : type_of bs ≡ 1 → ⊥ = λ q. grind (arith, nat_tests) in
      each _ ticket_items lawful_tickets (of_tickets bs other)

  pub by_its_type : P (by_type bs (value _ stamp_items) (value _ ticket_items))
  by_its_type = by_test (type_of bs == 1) refl

module _ (bs : List ℕ) (bytes : Bytes bs) (b : Buffers) (r : Result Certificate Refusal) (e : r ≡ (examination_of bs b).answer) where
  -- the examination's answer is a certificate exactly for the bytes of a true trace
  pub examined_exactly : (is_ok r ≡ true → TrueTraceOfEither bs) × ((h : TrueTraceOfEither bs) → is_too_short (count_of h) b ≡ false → is_ok r ≡ true)
  examined_exactly =
      by_its_type (λ I t. examining t b (reading t 1024 bs))
      (λ (x : Examined). r ≡ x.answer → (is_ok r ≡ true → TrueTraceOfEither bs) × ((h : TrueTraceOfEither bs) → is_too_short (count_of h) b ≡ false → is_ok r ≡ true)) bs
      (λ I t law type. answered_exactly t law bs bytes type b r) e

  -- and what that certificate says is true of the trace
  pub examined_certified : (w : Buffers) → w ≡ (examination_of bs b).buffers → IfOk r (λ c. CertifiedOfEither bs b c w)
  examined_certified w v =
      by_its_type (λ I t. examining t b (reading t 1024 bs))
      (λ (x : Examined). r ≡ x.answer → w ≡ x.buffers → IfOk r (λ c. CertifiedOfEither bs b c w)) bs
      (λ I t law type. answer_certified t law bs bytes b w type r) e v
