use Rattle.std.proofs.Common.{◌≡◌, ℕ, get_or, sym, ap, ◌∙◌, ◌++◌, take, drop, arith}
use Rattle.std.proofs.lemmas.List.{length-take-le}
use Rattle.holder.specs.Rows.{row_list}
use Rattle.holder.proofs.Fronts.{front_more, front_part}
use Rattle.holder.proofs.line.LineHolder.front.Goals as goal

pub loop-i-preserved : goal.loop-i-preserved
loop-i-preserved g c =
    let L = row_list c.args.self.now.row in
    let i = c.loop-i.i in
    let n = c.len-n.ensures in
    let G = g.E.End.given L in
    let long = g.met.E.End.laws.as_long L in
    let part = length-take-le c.min-written.result c.args.buffer.now (omega arith) in
    let at = g.met.E.End.laws.placed L i (omega arith) in
    let is : c.get.result ≡ get_or G i 0 = c.get.ensures ∙ ap (λ (k : ℕ). get_or L k 0) (c.place.ensures ∙ ap (λ (k : ℕ). g.E.End.across k i) n) ∙ sym at.1 in
    front_more G (take c.min-written.result c.args.buffer.now) c.loop-i.code-items i c.get.result (omega arith) (omega arith) is c.loop-i.invariant

pub returns-clause-written : goal.returns-clause-written
returns-clause-written g c =
    let L = row_list c.args.self.now.row in
    let long = g.met.E.End.laws.as_long L in
    let n = c.len-n.ensures in
    let G = g.E.End.given L in
    let w = c.min-written.result in
    let part = length-take-le w c.args.buffer.now (omega arith) in
    let end : c.loop-i.i ≡ w = omega arith in
    front_part G c.args.buffer.now c.loop-i.code-items w (omega arith) (c.loop-i.invariant ∙ ap (λ (k : ℕ). take k G ++ drop k (take w c.args.buffer.now)) end)
