-- What buffers hold: those that are lent, and those that lend them. Assumes nothing.
use Rattle.std.specs.Prelude.{◌≡◌, ℕ, List, vec_items}
use Rattle.calls.specs.Rules.{Buffers}
use Rattle.docket.specs.declared.buffers.Buffers.{Buffers as Lent}
use Rattle.docket.specs.declared.buffers.OwnBuffers.{OwnBuffers}

-- three lists as what three buffers hold
abbrev pub buffers_of : List ℕ → List ℕ → List ℕ → Buffers
buffers_of r i t = record { ranks = r; instants = i; latenesses = t }

-- what the lent ones hold
abbrev pub held : Lent → Buffers
held b = buffers_of b.ranks.now b.instants.now b.latenesses.now

-- what the lenders hold
abbrev pub owned : OwnBuffers → Buffers
owned b = buffers_of (vec_items b.ranks) (vec_items b.instants) (vec_items b.latenesses)

-- the slices that c holds are those that b held
abbrev pub SameSlices : Lent → Lent → Type 0
SameSlices b c = (c.ranks.ghost_name ≡ b.ranks.ghost_name) × (c.instants.ghost_name ≡ b.instants.ghost_name) × (c.latenesses.ghost_name ≡ b.latenesses.ghost_name)
