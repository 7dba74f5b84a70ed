-- A list over the front of another. Assumes nothing.
use Rattle.std.specs.Prelude.{List, ◌++◌, length, drop}

module _ {A : Type 0} where
  -- xs over the first entries of a buffer, the entries past it as they were
  abbrev pub over : List A → List A → List A
  over xs buffer = xs ++ drop (length xs) buffer
