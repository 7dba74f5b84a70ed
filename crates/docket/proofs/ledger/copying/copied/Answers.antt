use Rattle.std.proofs.Common.{arith, refl, sym, ap, ◌∙◌, length}
use Rattle.std.proofs.lemmas.List.{length-map}
use Rattle.sheet.specs.Sheets.{entered}
use Rattle.sheet.specs.declared.operation.Operation.{Operation}
use Rattle.docket.specs.Kept.{fresh}
use Rattle.docket.specs.Pairs.{paired_of, paired_all}
use Rattle.docket.proofs.Entered.{found_at, paired_at, few_paired, none_written, one_more, entries_are, none_placed, table_is}
use Rattle.docket.proofs.Awaiting.{awaits_all}
use Rattle.docket.proofs.ledger.copying.copied.Goals as goal

pub loop-number-init : goal.loop-number-init
loop-number-init g c = none_written (paired_all g.I.Item.number (entered c.args.sheet.now)) c.from-none.result c.from-none.ensures

pub paired-requires : goal.paired-requires
paired-requires g c =
    found_at g.I.Item.number c.all-operations.result.now (entered c.args.sheet.now) c.loop-number.number c.index-operations-number.result c.all-operations.ensures.entered c.loop-number-test.true c.index-operations-number.is

pub loop-number-preserved : goal.loop-number-preserved
loop-number-preserved g c =
    let number = g.I.Item.number in
    let all = c.all-operations.result.now in
    let os = entered c.args.sheet.now in
    let n = c.loop-number.number in
    let at = paired_at number all os n c.index-operations-number.result c.all-operations.ensures.entered c.loop-number-test.true c.index-operations-number.is in
    one_more (paired_all number os) n c.loop-number.entries c.from.result
    (omega (arith, c.loop-number-test.true, c.all-operations.ensures.few))
    (c.from.ensures ∙ ap fresh (c.paired.ensures ∙ sym at))
    c.loop-number.invariant

pub invariant_of-result-clause-lengths : goal.invariant_of-result-clause-lengths
invariant_of-result-clause-lengths g c = (c.loop-number.invariant.0, refl)

pub invariant_of-result-clause-flagged : goal.invariant_of-result-clause-flagged
invariant_of-result-clause-flagged g c =
    let os = entered c.args.sheet.now in
    let number = g.I.Item.number in
    let all = length-map os (paired_of number os) in
    let same = ap (length {A = Operation _}) c.all-operations.ensures.entered in
    λ x h. none_placed (paired_all number os) c.loop-number.number c.loop-number.entries (omega (arith, all, same, c.loop-number-test.false, c.loop-number.auto.number-end)) c.loop-number.invariant x

pub returns-clause-table : goal.returns-clause-table
returns-clause-table g c =
    let os = entered c.args.sheet.now in
    let number = g.I.Item.number in
    let all = length-map os (paired_of number os) in
    let same = ap (length {A = Operation _}) c.all-operations.ensures.entered in
    table_is (paired_all number os) c.loop-number.number c.loop-number.entries (omega (arith, all, same, c.loop-number-test.false, c.loop-number.auto.number-end)) c.loop-number.invariant
    (length c.all-operations.result.now) (omega (arith, all, same)) (few_paired number c.args.sheet.now)

pub returns-clause-entries : goal.returns-clause-entries
returns-clause-entries g c =
    let os = entered c.args.sheet.now in
    let number = g.I.Item.number in
    let all = length-map os (paired_of number os) in
    let same = ap (length {A = Operation _}) c.all-operations.ensures.entered in
    entries_are (paired_all number os) c.loop-number.number c.loop-number.entries (omega (arith, all, same, c.loop-number-test.false, c.loop-number.auto.number-end)) c.loop-number.invariant

pub invariant_of-result-clause-ends : goal.invariant_of-result-clause-ends
invariant_of-result-clause-ends g c =
    let os = entered c.args.sheet.now in
    let number = g.I.Item.number in
    let all = length-map os (paired_of number os) in
    let same = ap (length {A = Operation _}) c.all-operations.ensures.entered in
    let none = none_placed (paired_all number os) c.loop-number.number c.loop-number.entries (omega (arith, all, same, c.loop-number-test.false, c.loop-number.auto.number-end)) c.loop-number.invariant in
    awaits_all _ _ c.loop-number.entries (omega (arith, c.all-operations.ensures.few, c.loop-number.invariant.0)) none c.of-awaited.ensures.ends
