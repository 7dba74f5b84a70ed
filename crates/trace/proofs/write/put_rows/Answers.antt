use Rattle.std.proofs.Common.{◌≡◌, ◌+◌, ◌≤◌, [], ◌∷◌, ◌++◌, length, take, sym, ap, ◌∙◌, subst, arith, take_all, rules}
use Rattle.std.proofs.lemmas.List.{take_more}
use Rattle.std.proofs.SliceLists.{all_by_recursion_push}
use Rattle.std.specs.List.{AllByRecursion}
use Rattle.trace.proofs.Writes.{written_none, written_more, written_all}
use Rattle.trace.proofs.write.put_rows.Goals as goal

pub loop-i-init : goal.loop-i-init
loop-i-init g c =
    let inside : c.args.at ≤ length c.args.out.now = omega arith in
    record { written = written_none g.T.Row.bytes g.row.W c.args.at c.args.out.now c.args.rows.now inside; fit = tt }

pub loop-i-preserved : goal.loop-i-preserved
loop-i-preserved g c =
    let i = c.loop-i.i in
    let rows = c.args.rows.now in
    let row = c.index-rows-i.result in
    let v = c.loop-i.invariant in
    let long : length c.row.result ≡ g.row.W = search rules in
    let inside : c.args.at ≤ length c.args.out.now = omega arith in
    let more : take (i + 1) rows ≡ take i rows ++ row ∷ [] = take_more rows i row c.loop-i-test.true ∙ ap (λ y. take i rows ++ y ∷ []) (sym c.index-rows-i.is) in
    record {
      written =
          written_more g.T.Row.bytes g.row.W c.args.at c.args.out.now rows c.loop-i.out c.write_part.new.out c.row.result i row inside c.loop-i-test.true
          c.index-rows-i.is c.row.ensures.bytes long v.written c.write_part.ensures;
      fit = subst (AllByRecursion g.T.Row.fit) (sym more) (all_by_recursion_push g.T.Row.fit (take i rows) row v.fit c.row.ensures.fit);
    }

pub returns : goal.returns
returns g c =
    let rows = c.args.rows.now in
    let e : c.loop-i.i ≡ length c.args.rows.now = omega arith in
    record {
      bytes = written_all g.T.Row.bytes g.row.W c.args.at c.args.out.now rows c.loop-i.out c.loop-i.i e c.loop-i.invariant.written;
      fit = subst (AllByRecursion g.T.Row.fit) (take_all c.loop-i.i rows (omega arith)) c.loop-i.invariant.fit;
    }
