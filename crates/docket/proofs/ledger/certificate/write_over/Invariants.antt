use Rattle.std.proofs.Common.{◌≡◌, ℕ, map, take}
use Rattle.std.specs.Borrow.{Bor}
use Rattle.giving.specs.Fronts.{over}
use Rattle.docket.proofs.ledger.certificate.write_over.Given as goal

abbrev pub invariant-loop-i : goal.invariant-loop-i
invariant-loop-i g l = (f : g.row.T.Denot → ℕ) → ((x : Bor g.row.T.Denot) (r : ℕ) → goal.F-post g l.of x r → r ≡ f x.now) → l.buffer ≡ over (map f (take l.i l.items)) l.initial.buffer
