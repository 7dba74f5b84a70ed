use Rattle.std.proofs.Common.{◌≡◌, ℕ, ◌<◌, ◌≤◌, length, get_or}
use Rattle.docket.proofs.Awaiting.{LesserAt}
use Rattle.docket.proofs.ledger.awaited.write_level.Given as goal

abbrev pub invariant-loop-place : goal.invariant-loop-place
invariant-loop-place l =
    (length l.least ≡ 2048)
    × (l.first ≤ l.place)
    × ((q : ℕ) → l.place ≤ q → q < l.past → LesserAt l.least q)
    × ((q : ℕ) → q < l.place → get_or l.least q 0 ≡ get_or l.initial.least q 0)
    × ((q : ℕ) → l.past ≤ q → get_or l.least q 0 ≡ get_or l.initial.least q 0)
