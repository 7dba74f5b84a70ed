use Rattle.std.proofs.Common.{◌≡◌, ℕ, ◌-◌, ◌^◌, ◌<◌, ltb, length, get_or}
use Rattle.docket.specs.Kept.{entry_of, end_at, end_if}
use Rattle.docket.proofs.ledger.awaited.write_ends.Given as goal

abbrev pub invariant-loop-number : goal.invariant-loop-number
invariant-loop-number l =
    (length l.least ≡ 2048)
    × ((x : ℕ) → x < 1024 → end_at l.least x ≡ end_if (ltb x l.number) (entry_of l.table x))
    × ((p : ℕ) → p < 1024 → get_or l.least p 0 ≡ 2 ^ 64 - 1)
