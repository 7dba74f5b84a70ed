use Rattle.std.proofs.Common.{◌≡◌, true, [], drop}
use Rattle.holder.specs.Meanings.{Meaning, meaning}
use Rattle.turns.specs.Calls.{after_all, Answered}
use Rattle.turns.proofs.calls.answers_agree.Given as goal

-- `agree` says whether the answers so far were right
abbrev pub invariant-loop-turn : goal.invariant-loop-turn
invariant-loop-turn g l =
    let seat = g.H.Holder.seat in
    let now : Meaning = meaning (g.H.Holder.giving l.holder) (g.H.Holder.adds l.holder) in
    let rest = drop l.turn-index l.turns in
    record {
      so_far : l.agree ≡ true → Answered seat now rest → Answered seat (meaning [] 0) l.turns;
      if_all : Answered seat (meaning [] 0) l.turns → (l.agree ≡ true) × Answered seat now rest;
      left : after_all seat now rest ≡ after_all seat (meaning [] 0) l.turns;
    }
