-- One slot filled, and one more. Assumes nothing.
use Rattle.std.proofs.Common.{◌≡◌, ℕ, ◌+◌, ◌<◌, List, [], ◌∷◌, ◌++◌, map, length, get_or, take, drop, set, Result, sym, refl, ap, ◌∙◌, subst, arith}
use Rattle.std.proofs.lemmas.List.{with_items_is, take_more, take_more_set, map_push, append_assoc, at_drop_more}
use Rattle.std.specs.List.{AllZip}
use Rattle.std.specs.Vec.{with_items}
use Rattle.std.proofs.lemmas.List.Elements.{AllZip-push}
use Rattle.giving.specs.Lists.{SeatRule}
use Rattle.calls.specs.declared.certificate.Certificate.{Certificate}
use Rattle.docket.specs.declared.slot.Slot.{Slot}
use Rattle.calls.specs.Calls.{Call, Answer, answer_for, left_by, answers_for, placed_by}
use Rattle.order.specs.declared.operation.Paired.{Paired}
use Rattle.calls.specs.declared.fault.DocketFault.{DocketFault}
use Rattle.docket.specs.declared.ledger.Ledger.{Ledger}
use Rattle.docket.specs.InAgreement.{ops_of, steps_of}
use Rattle.docket.specs.Buffers.{buffers_of, owned}
use Rattle.docket.specs.declared.buffers.OwnBuffers.{OwnBuffers}
use Rattle.docket.proofs.Fronts.{same_buffers}
use Rattle.calls.proofs.Sessions.{session}
use Rattle.docket.specs.declared.slot.Slot.TheVariants.{Certify}
use Rattle.calls.specs.Sessions.{Session}
use Rattle.docket.specs.Slots.{Keeps, call_of, reply_of}

pub keeps_certify : (s : Slot) (b c : OwnBuffers) (a r : Result Certificate DocketFault) → s ≡ Certify b a → Keeps s (Certify c r)
keeps_certify s b c a r is = subst (λ (t : Slot). Keeps t (Certify c r)) (sym is) (owned c, refl)

-- what buffers of one's own hold once lists as long are written over them
pub owned_over : (o : OwnBuffers) (r i t : List ℕ) → length r ≡ o.ranks.len → length i ≡ o.instants.len → length t ≡ o.latenesses.len
    → owned (record { ranks = with_items o.ranks r; instants = with_items o.instants i; latenesses = with_items o.latenesses t }) ≡ buffers_of r i t
owned_over o r i t rn inn tn = same_buffers (with_items_is o.ranks r rn) (with_items_is o.instants i inn) (with_items_is o.latenesses t tn)

-- ---- the slots in turn
module _ (seat : SeatRule) (l m : Ledger) (ys zs : List Slot) (i : ℕ) (y z d : Slot)
    (h : i < length ys) (long : length zs ≡ length ys) (is : y ≡ get_or ys i d)
    (left : steps_of m ≡ left_by seat (ops_of l) l.k (steps_of l) (call_of y)) (ops : ops_of m ≡ ops_of l) (k : m.k ≡ l.k) where
  pub answers_more : (T : List Answer) → reply_of z ≡ answer_for seat (ops_of l) l.k (steps_of l) (call_of y)
      → map reply_of (take i zs) ++ answers_for seat (ops_of l) l.k (steps_of l) (map call_of (drop i ys)) ≡ T
      → map reply_of (take (i + 1) (set zs i z)) ++ answers_for seat (ops_of m) m.k (steps_of m) (map call_of (drop (i + 1) ys)) ≡ T
  answers_more T said inv =
      let cs = map call_of (drop (i + 1) ys) in
      let next : answers_for seat (ops_of l) l.k (steps_of l) (map call_of (drop i ys)) ≡ answer_for seat (ops_of l) l.k (steps_of l) (call_of y) ∷ answers_for seat (ops_of l) l.k (left_by seat (ops_of l) l.k (steps_of l) (call_of y)) cs =
      at_drop_more (λ (v : List Slot). answers_for seat (ops_of l) l.k (steps_of l) (map call_of v)) ys i d h
      ∙ ap (λ (v : Slot). answer_for seat (ops_of l) l.k (steps_of l) (call_of v) ∷ answers_for seat (ops_of l) l.k (left_by seat (ops_of l) l.k (steps_of l) (call_of v)) (map call_of (drop (i + 1) ys))) (sym is) in
      let rest : answers_for seat (ops_of l) l.k (left_by seat (ops_of l) l.k (steps_of l) (call_of y)) cs ≡ answers_for seat (ops_of m) m.k (steps_of m) cs =
      ap (λ (v : List ℕ). answers_for seat (ops_of l) l.k v (map call_of (drop (i + 1) ys))) (sym left)
      ∙ ap (λ (v : ℕ). answers_for seat (ops_of l) v (steps_of m) (map call_of (drop (i + 1) ys))) (sym k)
      ∙ ap (λ (v : List Paired). answers_for seat v m.k (steps_of m) (map call_of (drop (i + 1) ys))) (sym ops) in
      let front : map reply_of (take (i + 1) (set zs i z)) ≡ map reply_of (take i zs) ++ reply_of z ∷ [] =
      ap (map reply_of) (take_more_set zs i z (omega arith)) ∙ map_push reply_of (take i zs) z in
      ap (λ (v : List Answer). v ++ answers_for seat (ops_of m) m.k (steps_of m) (map call_of (drop (i + 1) ys))) front
      ∙ append_assoc (map reply_of (take i zs)) (reply_of z ∷ []) (answers_for seat (ops_of m) m.k (steps_of m) (map call_of (drop (i + 1) ys)))
      ∙ ap (λ (v : Answer). map reply_of (take i zs) ++ v ∷ answers_for seat (ops_of m) m.k (steps_of m) (map call_of (drop (i + 1) ys))) said
      ∙ sym (ap (λ (v : List Answer). map reply_of (take i zs) ++ v) (next ∙ ap (λ (v : List Answer). answer_for seat (ops_of l) l.k (steps_of l) (call_of y) ∷ v) rest))
      ∙ inv

  pub steps_more : (T : List ℕ) → placed_by seat (ops_of l) l.k (steps_of l) (map call_of (drop i ys)) ≡ T → placed_by seat (ops_of m) m.k (steps_of m) (map call_of (drop (i + 1) ys)) ≡ T
  steps_more T inv =
      sym (at_drop_more (λ (v : List Slot). placed_by seat (ops_of l) l.k (steps_of l) (map call_of v)) ys i d h
      ∙ ap (λ (v : Slot). placed_by seat (ops_of l) l.k (left_by seat (ops_of l) l.k (steps_of l) (call_of v)) (map call_of (drop (i + 1) ys))) (sym is)
      ∙ ap (λ (v : List ℕ). placed_by seat (ops_of l) l.k v (map call_of (drop (i + 1) ys))) (sym left)
      ∙ ap (λ (v : ℕ). placed_by seat (ops_of l) v (steps_of m) (map call_of (drop (i + 1) ys))) (sym k)
      ∙ ap (λ (v : List Paired). placed_by seat v m.k (steps_of m) (map call_of (drop (i + 1) ys))) (sym ops))
      ∙ inv

pub kept_more : (ys zs : List Slot) (i : ℕ) (y z d : Slot) → i < length ys → length zs ≡ length ys → y ≡ get_or ys i d → Keeps y z → AllZip Keeps (take i ys) (take i zs) → AllZip Keeps (take (i + 1) ys) (take (i + 1) (set zs i z))
kept_more ys zs i y z d h long is k all =
    rw (take_more ys i d h, take_more_set zs i z (omega arith)) (AllZip-push Keeps (take i ys) (take i zs) (get_or ys i d) z all (subst (λ (s : Slot). Keeps s z) is k))

-- from a newly opened docket
pub opened_all : (seat : SeatRule) (l : Ledger) (ops : List Paired) (k : ℕ) (cs : List Call) → ops_of l ≡ ops → l.k ≡ k → steps_of l ≡ []
    → (answers_for seat (ops_of l) l.k (steps_of l) cs ≡ answers_for seat ops k [] cs) × (placed_by seat (ops_of l) l.k (steps_of l) cs ≡ placed_by seat ops k [] cs)
opened_all seat l ops k cs o b s = (
  ap (λ (v : List Paired). answers_for seat v l.k (steps_of l) cs) o ∙ ap (λ (v : ℕ). answers_for seat ops v (steps_of l) cs) b ∙ ap (λ (v : List ℕ). answers_for seat ops k v cs) s,
  ap (λ (v : List Paired). placed_by seat v l.k (steps_of l) cs) o ∙ ap (λ (v : ℕ). placed_by seat ops v (steps_of l) cs) b ∙ ap (λ (v : List ℕ). placed_by seat ops k v cs) s,
)

-- what the answers and the steps mean
pub met : (seat : SeatRule) (ops : List Paired) (k : ℕ) (cs : List Call) (rs : List Answer) (q : List ℕ) → rs ≡ answers_for seat ops k [] cs → q ≡ placed_by seat ops k [] cs → Session seat ops k [] cs rs q
met seat ops k cs rs q a b =
    subst (λ (v : List Answer). Session seat ops k [] cs v q) (sym a) (subst (λ (v : List ℕ). Session seat ops k [] cs (answers_for seat ops k [] cs) v) (sym b) (session seat ops k cs [] tt))
