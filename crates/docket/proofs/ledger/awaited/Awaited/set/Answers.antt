use Rattle.std.proofs.Common.{◌+◌, ◌∙◌, arith}
use Rattle.std.proofs.lemmas.List.{get_or-set_same, get_or-set_other}
use Rattle.docket.proofs.ledger.awaited.Awaited.set.Goals as goal

pub invariant_of-self : goal.invariant_of-self
invariant_of-self c = record { long = c.write_upward.ensures.long; lesser = c.write_upward.ensures.lesser }

pub returns : goal.returns
returns c =
    let ends = c.write_upward.ensures.ends in
    let ts = c.args.self.now.least in
    let n = c.args.number in
    record {
      own = ends n ∙ get_or-set_same ts (1024 + n) c.args.end 0 (omega (arith, c.args.self.now.long, c.requires));
      others = (λ x e. ends x ∙ get_or-set_other ts (1024 + n) (1024 + x) c.args.end 0 (λ q. e (omega arith)));
      unused = c.write_upward.ensures.unused;
    }
