use Rattle.std.proofs.Common.{[], sym, ap, ◌∙◌, subst}
use Rattle.holder.specs.Meanings.{meaning}
use Rattle.turns.specs.Calls.{answered, after_all, Answered}
use Rattle.turns.proofs.Turns.{alike, written, rewritten, answered_twice, left_twice}
use Rattle.turns.proofs.calls.answer_alike.Goals as goal

pub returns-clause-alike : goal.returns-clause-alike
returns-clause-alike g c =
    let s = g.G.Holder.seat in
    let t = g.H.Holder.seat in
    let all = c.args.turns.now in
    λ same. c.answers_agree.ensures.told (subst (Answered t (meaning [] 0)) (sym (alike s t same (meaning [] 0) all).0 ∙ sym c.answer_all.ensures.answers) (written t (meaning [] 0) all))

pub returns-clause-agreed : goal.returns-clause-agreed
returns-clause-agreed g c =
    let s = g.G.Holder.seat in
    let t = g.H.Holder.seat in
    let all = c.args.turns.now in
    let e = c.answer_all.ensures.answers in
    λ yes. sym (answered_twice t s (meaning [] 0) (meaning [] 0) all) ∙ ap (answered t (meaning [] 0)) (sym e) ∙ rewritten t (meaning [] 0) _ (c.answers_agree.ensures.agreed yes) ∙ e

pub returns-clause-right : goal.returns-clause-right
returns-clause-right g c =
    let s = g.G.Holder.seat in
    let t = g.H.Holder.seat in
    c.answers_agree.ensures.left ∙ ap (after_all t (meaning [] 0)) c.answer_all.ensures.answers ∙ left_twice t s (meaning [] 0) (meaning [] 0) c.args.turns.now
