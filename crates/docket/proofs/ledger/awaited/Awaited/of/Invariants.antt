use Rattle.std.proofs.Common.{◌≡◌, ℕ, ◌*◌, ◌-◌, ◌^◌, ◌<◌, ◌≤◌, ltb, length, get_or}
use Rattle.docket.specs.Kept.{entry_of, end_at, end_if}
use Rattle.docket.proofs.Awaiting.{LesserAt}
use Rattle.docket.proofs.ledger.awaited.Awaited.of.Given as goal

-- on the level that was written last, the places from `past` on are above no operation
abbrev pub invariant-loop-first : goal.invariant-loop-first
invariant-loop-first l =
    (length l.least ≡ 2048)
    × (1 ≤ l.first)
    × (l.first ≤ 1024)
    × (l.first ≤ l.past)
    × (l.past ≤ 2048)
    × ((q : ℕ) → l.first ≤ q → q < 1024 → LesserAt l.least q)
    × ((q : ℕ) → q < l.first → get_or l.least q 0 ≡ 2 ^ 64 - 1)
    × ((q : ℕ) → l.past ≤ q → q < 2 * l.first → get_or l.least q 0 ≡ 2 ^ 64 - 1)
    × ((x : ℕ) → x < 1024 → end_at l.least x ≡ end_if (ltb x (length l.table)) (entry_of l.table x))

abbrev pub decreases-loop-first : goal.decreases-loop-first
decreases-loop-first l = l.first
