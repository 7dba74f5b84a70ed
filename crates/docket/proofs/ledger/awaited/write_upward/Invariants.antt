use Rattle.std.proofs.Common.{◌≡◌, ℕ, ◌/◌, ◌<◌, ◌≤◌, length, get_or}
use Rattle.docket.specs.Kept.{end_at}
use Rattle.docket.proofs.Awaiting.{LesserAt}
use Rattle.docket.proofs.ledger.awaited.write_upward.Given as goal

-- what is above the place may not be the lesser of the two below it yet
abbrev pub invariant-loop-place : goal.invariant-loop-place
invariant-loop-place l =
    (length l.least ≡ 2048)
    × (1 ≤ l.place)
    × (l.place < 2048)
    × ((q : ℕ) → 1 ≤ q → q < 1024 → (q ≡ l.place / 2 → ⊥) → LesserAt l.least q)
    × ((x : ℕ) → end_at l.least x ≡ end_at l.initial.least x)
    × (get_or l.least 0 0 ≡ get_or l.initial.least 0 0)

abbrev pub decreases-loop-place : goal.decreases-loop-place
decreases-loop-place l = l.place
