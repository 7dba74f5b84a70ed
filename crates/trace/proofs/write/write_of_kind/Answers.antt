use Rattle.std.proofs.Common.{◌≡◌, ◌+◌, ◌*◌, ◌≤◌, [], ◌++◌, length, drop, Ok, is_ok, sym, ap, ◌∙◌, subst, arith}
use mathlib.Core.Logic.{∥∥₁_map}
use Rattle.std.proofs.lemmas.Bool.{cond-true}
use Rattle.std.proofs.lemmas.Bool.Decides.{nat_tests}
use Rattle.item.proofs.Laws.{lawful}
use Rattle.sheet.specs.Consistency.{Consistent}
use Rattle.sheet.specs.Sheets.{entered}
use Rattle.frame.specs.Kinds.{kind_number}
use Rattle.frame.proofs.KindNumbers.{number_small}
use Rattle.trace.specs.Contents.{contents, encode, AllFit}
use Rattle.trace.specs.Writing.{write_answer}
use Rattle.trace.proofs.Readings.{length_encode}
use Rattle.trace.proofs.Writes.{whole, reads_back}
use Rattle.trace.proofs.write.write_of_kind.Goals as goal

pub returns : goal.returns
returns g c =
    let t = g.I.Item in
    let law = lawful g.met.I.Item in
    let ops = c.all-ops.result.now in
    let items = c.all-ops.ensures.entered in
    let k = c.args.k in
    let order = c.args.order.now in
    let mem = c.args.out.now in
    let kind = kind_number c.args.kind in
    let n : length ops ≡ length (entered c.args.sheet.now) = ap length items in
    let bytes =
    whole t c.TYPE.result kind k ops order c.header_bytes.result mem c.write_part.new.out c.put_rows.new.out c.put_rows-2.new.out
    c.TYPE.ensures c.if-order-ops.false c.header_bytes.ensures c.write_part.ensures c.put_rows.ensures.bytes c.put_rows-2.ensures.bytes
    ∙ ap (λ z. encode t (contents kind k z order) ++ drop (8 + 26 * length z) mem) items in
    let answer : Ok tt ≡ write_answer kind (length (entered c.args.sheet.now)) (length order) (length mem) = grind (arith, nat_tests) in
    let long = length_encode t (contents kind k (entered c.args.sheet.now) order) (c.if-order-ops.false ∙ n) in
    let front = bytes ∙ ap (λ z. encode t (contents kind k (entered c.args.sheet.now) order) ++ drop z mem) (sym long) in
    let fits = subst (AllFit t) items c.put_rows.ensures.fit in
    let few : length (entered c.args.sheet.now) ≤ 1024 = omega (arith, c.all-ops.ensures.few) in
    let consistent = ∥∥₁_map c.all-ops.ensures.consistent (subst (Consistent []) items) in
    record {
      answer = answer;
      bytes = front ∙ sym (cond-true (is_ok (write_answer kind (length (entered c.args.sheet.now)) (length order) (length mem))) _ mem (ap is_ok (sym answer)));
      reads_as_what_went_in =
          reads_back t law kind k (entered c.args.sheet.now) order c.put_rows-2.new.out (drop (8 + 26 * length (entered c.args.sheet.now)) mem)
          (number_small c.args.kind) (omega arith) few (c.if-order-ops.false ∙ n) c.put_rows-2.ensures.fit fits consistent bytes;
    }
