use Rattle.std.proofs.Common.{◌≡◌, ◌≤◌, ℕ, true, length, replicate, is_ok, sym, List, Result, ap, subst, ◌∙◌, refl, arith, rules}
use Rattle.std.proofs.lemmas.List.{length-take, length-replicate}
use Rattle.giving.specs.Lists.{SeatRule}
use Rattle.refusal.specs.declared.Refusal.{Refusal}
use Rattle.item.specs.declared.item.Item.{Ghosts}
use Rattle.sheet.specs.declared.sheet.Sheet.{Sheet}
use Rattle.sheet.specs.Sheets.{entered}
use Rattle.calls.specs.declared.certificate.Certificate.{Certificate}
use Rattle.calls.specs.Rules.{Buffers}
use Rattle.docket.specs.Pairs.{sheet_ops}
use Rattle.examination.specs.Orders.{order_answer}
use Rattle.docket.specs.Buffers.{buffers_of, held}
use Rattle.text.specs.Contents.{content, with_words}
use Rattle.report.specs.Reports.{Verdict, verdict_of_order}
use Rattle.report.proofs.Verdicts.{order_said, granted_as, granted_exactly, few_where_granted}
use Rattle.report.proofs.verdict.verdict.Goals as goal

-- the buffers that are lent
abbrev none : Buffers
none = buffers_of (replicate 1024 0) (replicate 1024 0) (replicate 1024 0)

-- an order to which a certificate is granted has as many steps as there are operations, and these are few
within : {I : Type 0} (t : Ghosts I) (seat : SeatRule) (s : Sheet I) (k : ℕ) (p : List ℕ) (b : Buffers) (a : Result Certificate Refusal) →
    length (entered s) ≤ 1024 → a ≡ order_answer seat (sheet_ops t.number s) k p b → is_ok a ≡ true → length p ≤ 1024
within t seat s k p b a few e ok = let n = few_where_granted t seat (entered s) k p b a e ok in omega (arith, few, n)

pub say_answer-requires-clause-ranks : goal.say_answer-requires-clause-ranks
say_answer-requires-clause-ranks g c =
    let sheet = c.args.sheet.now in
    let few : length (entered c.args.sheet.now) ≤ 1024 = omega (arith, length-take sheet.count sheet.records.now, sheet.bounded) in
    let long : 1024 ≤ length c.certify_order-answer.new.buffers.ranks.now = search rules in
    λ ok. let n = within g.I.Item g.H.Holder.seat sheet _ _ none _ few c.certify_order-answer.ensures.answer ok in omega (arith, long, n)

pub say_answer-requires-clause-instants : goal.say_answer-requires-clause-instants
say_answer-requires-clause-instants g c =
    let sheet = c.args.sheet.now in
    let few : length (entered c.args.sheet.now) ≤ 1024 = omega (arith, length-take sheet.count sheet.records.now, sheet.bounded) in
    let long : 1024 ≤ length c.certify_order-answer.new.buffers.instants.now = search rules in
    λ ok. let n = within g.I.Item g.H.Holder.seat sheet _ _ none _ few c.certify_order-answer.ensures.answer ok in omega (arith, long, n)

pub returns : goal.returns
returns g c =
    let t = g.I.Item in
    let sheet = c.args.sheet.now in
    let seat = g.H.Holder.seat in
    let k = c.args.proposal.now.k in
    let p = c.args.proposal.now.order.now in
    let long = length-replicate {A = ℕ} 1024 0 in
    let few : length (entered c.args.sheet.now) ≤ length (replicate {A = ℕ} 1024 0) = omega (arith, length-take sheet.count sheet.records.now, sheet.bounded, long) in
    let e = c.certify_order-answer.ensures in
    let answer = c.certify_order-answer.result in
    let after = held c.certify_order-answer.new.buffers in
    let same = order_said t seat (entered sheet) k p none few few few answer after e.answer e.written in
    let granted = c.is_ok.ensures.value ∙ sym (granted_as t seat (entered sheet) k p answer after) ∙ ap (λ (v : Verdict). v.granted) same in
    let exactly = granted_exactly t seat (entered sheet) k p (verdict_of_order t seat (entered sheet) k p) refl in
    let short = few_where_granted t seat (entered sheet) k p none answer e.answer in
    record {
      granted = granted;
      said = c.say_answer.ensures.said ∙ ap (λ (v : Verdict). with_words v.text (content c.args.text.now)) same;
      short = subst (λ (v : Verdict). length v.text ≤ 150639) same (c.say_answer.ensures.short (λ ok. omega (arith, short ok, few, long)));
      granted_exactly_when_true_order = (λ h. exactly.0 (sym granted ∙ h), λ o. granted ∙ exactly.1 o);
    }
