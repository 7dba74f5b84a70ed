use Rattle.std.proofs.Common.{◌≡◌, ℕ, List, None, Option, sym, refl, ap, ◌∙◌}
use Rattle.sheet.specs.declared.operation.Method.{Method}
use Rattle.sheet.specs.declared.operation.Operation.{Operation}
use Rattle.sheet.specs.Pairing.{pair_of, pair_of_method}
use Rattle.sheet.specs.Sheets.{entered}
use Rattle.order.specs.declared.operation.Deed.{Deed}
use Rattle.order.specs.declared.operation.Paired.{Paired}
use Rattle.docket.specs.Pairs.{deed_by, paired_of}
use Rattle.docket.proofs.ledger.copying.paired.Goals.{in-Add, in-Take+in-Some, in-Take+in-None, in-FoundEmpty}
use Rattle.docket.proofs.ledger.copying.paired.Goals as goal

-- an operation of the method m, whose item the operation a adds
with_deed : {I : Type 0} (number : I → ℕ) (os : List (Operation I)) (o : Operation I) (m : Method I) (a : Option ℕ) (d : Deed) → o.method ≡ m → pair_of_method number os m ≡ a → d ≡ deed_by m a
    → ◌≡◌ {A = Paired} (record { deed = d; thread = o.thread; start = o.start; end = o.end }) (paired_of number os o)
with_deed number os o m a d by pair is =
    ap (λ (e : Deed). record { deed = e; thread = o.thread; start = o.start; end = o.end })
    (is ∙ ap (deed_by m) (sym pair) ∙ sym (ap (λ (n : Method _). deed_by n (pair_of_method number os n)) by))

pub returns : goal.returns
returns g c =
    let number = g.I.Item.number in
    let os = entered c.args.sheet.now in
    let o = c.args.operation.now in
    let d = c.match-operation.deed in
    let of = ap (pair_of number os) c.requires in
    elim c.match-operation.branch [
      | in-Add w ↦ with_deed number os o _ None d w.in-Add.is refl w.deed-is
      | in-Take+in-Some w ↦
          with_deed number os o _ _ d w.in-Take.is (ap (pair_of_method number os) (sym w.in-Take.is) ∙ sym of ∙ sym w.pair.ensures.answer ∙ w.in-Some.is) w.deed-is
      | in-Take+in-None w ↦
          with_deed number os o _ _ d w.in-Take.is (ap (pair_of_method number os) (sym w.in-Take.is) ∙ sym of ∙ sym w.pair.ensures.answer ∙ w.in-None.is) w.deed-is
      | in-FoundEmpty w ↦ with_deed number os o _ None d w.in-FoundEmpty.is refl w.deed-is
    ]
