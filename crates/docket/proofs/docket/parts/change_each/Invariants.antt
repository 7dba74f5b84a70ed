use Rattle.std.proofs.Common.{◌≡◌, ℕ, take}
use Rattle.docket.specs.Moves.{with_late, changed_all}
use Rattle.docket.proofs.docket.parts.change_each.Given as goal

abbrev pub invariant-loop-code : goal.invariant-loop-code
invariant-loop-code g l = (f : ℕ → ℕ) → ((n r : ℕ) → goal.F-post g l.change n r → r ≡ f n) → l.entries ≡ changed_all (with_late f) l.initial.entries (take l.code-index l.codes)
