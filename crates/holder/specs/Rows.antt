-- The codes of a row. Assumes nothing.
use Rattle.std.specs.Prelude.{ℕ, List, take}
use Rattle.holder.specs.declared.row.Row.{Row}

-- those at the front of its array, as many as are in use
abbrev pub row_list : Row → List ℕ
row_list r = take r.len r.codes
