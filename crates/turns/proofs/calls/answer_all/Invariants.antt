use Rattle.std.proofs.Common.{◌≡◌, [], ◌++◌, take, drop}
use Rattle.holder.specs.Meanings.{Meaning, meaning}
use Rattle.turns.specs.Calls.{answered, after_all}
use Rattle.turns.proofs.calls.answer_all.Given as goal

-- what is left to answer completes the whole
abbrev pub invariant-loop-turn : goal.invariant-loop-turn
invariant-loop-turn g l =
    let seat = g.H.Holder.seat in
    let now : Meaning = meaning (g.H.Holder.giving l.holder) (g.H.Holder.adds l.holder) in
    let rest = drop l.turn-index l.turns in
    record {
      answers : take l.turn-index l.turns ++ answered seat now rest ≡ answered seat (meaning [] 0) l.initial.turns;
      left : after_all seat now rest ≡ after_all seat (meaning [] 0) l.initial.turns;
    }
