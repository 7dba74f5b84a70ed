-- What holders answer to lists of calls: the same with the same seats. Assumes nothing.
use Rattle.std.proofs.Common.{◌≡◌, List, [], ◌∷◌, sym, refl}
use Rattle.giving.specs.Lists.{SeatRule}
use Rattle.turns.specs.declared.calls.HolderCall.TheVariants.{Clear, Count, Rank, At, Add, Take}
use Rattle.turns.specs.declared.calls.HolderCall.{HolderCall}
use Rattle.turns.specs.declared.calls.HolderTurn.{HolderTurn}
use Rattle.holder.specs.Meanings.{Meaning}
use Rattle.turns.specs.Calls.{after, after_all, answered, Answered}
use Rattle.turns.specs.Laws.{SameSeat, SameSeatsAnswerAlike}

-- the same seats: the same meaning after each call, and the same answers
after_alike : (s t : SeatRule) → SameSeat s t → (m : Meaning) (k : HolderCall) → after s m k ≡ after t m k
after_alike s t e m Clear = refl
after_alike s t e m Count = refl
after_alike s t e m (Rank c) = refl
after_alike s t e m (At p) = refl
after_alike s t e m (Add c) = rw (e m.list c)
after_alike s t e m (Take c) = refl

pub alike : SameSeatsAnswerAlike
alike s t e m [] = (refl, refl)
alike s t e m (x ∷ xs) =
    let a = after_alike s t e m x.call in
    let h = alike s t e (after t m x.call) xs in
    (cc, cc)

-- what was written down as answered is answered
pub written : (seat : SeatRule) (m : Meaning) (ts : List HolderTurn) → Answered seat m (answered seat m ts)
written seat m [] = tt
written seat m (t ∷ ts) = (refl, written seat (after seat m t.call) ts)

-- and answers that are right are those that would be written down
pub rewritten : (seat : SeatRule) (m : Meaning) (ts : List HolderTurn) → Answered seat m ts → answered seat m ts ≡ ts
rewritten seat m [] a = refl
rewritten seat m (t ∷ ts) a = rw (sym a.0, rewritten seat (after seat m t.call) ts a.1)

-- the calls stay when answers are written down
pub answered_twice : (s t : SeatRule) (m n : Meaning) (ts : List HolderTurn) → answered s m (answered t n ts) ≡ answered s m ts
answered_twice s t m n [] = refl
answered_twice s t m n (x ∷ xs) = cc (answered_twice s t (after s m x.call) (after t n x.call) xs)

pub left_twice : (s t : SeatRule) (m n : Meaning) (ts : List HolderTurn) → after_all s m (answered t n ts) ≡ after_all s m ts
left_twice s t m n [] = refl
left_twice s t m n (x ∷ xs) = left_twice s t (after s m x.call) (after t n x.call) xs
