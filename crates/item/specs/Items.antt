-- What the numbers of an item type obey.
use Rattle.std.specs.Prelude.{◌≡◌, ℕ, ◌^◌, ◌<◌, Ok}
use Rattle.item.specs.declared.item.Item.{Ghosts}

-- t is what the item type means: its type's number, its items' numbers, which items fit their widths, and the item that a number names
pub record Lawful {I : Type 0} (t : Ghosts I) : Type 0 where
  pub coded : t.TYPE < 16
  pub small : (x : I) → t.fit x → t.number x < 2 ^ 40
  pub there : (x : I) → t.fit x → t.named (t.number x) ≡ Ok x
  pub back : (n : ℕ) (x : I) → t.named n ≡ Ok x → (t.number x ≡ n) × t.fit x
