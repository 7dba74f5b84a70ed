-- What a trace holds, and the bytes that say it.
use Rattle.std.specs.Prelude.{◌≡◌, ℕ, ◌^◌, ◌<◌, ◌≤◌, List, [], ◌++◌, length}
use Rattle.std.specs.List.{AllByRecursion, flat_map}
use Rattle.item.specs.declared.item.Item.{Ghosts}
use Rattle.sheet.specs.declared.operation.Operation.{Operation}
use Rattle.sheet.specs.Consistency.{Consistent}
use Rattle.record.specs.Bytes.{bytes_of_number}
use Rattle.record.specs.Records.{encode_record, Fit}
use Rattle.frame.specs.Headers.{bytes_of_header}
use Rattle.frame.specs.Orders.{Small}

-- kind and k, the operations by their numbers, and the order of them
pub record Contents (I : Type 0) : Type 0 where
  pub kind : ℕ
  pub k : ℕ
  pub ops : List (Operation I)
  pub order : List ℕ

-- contents of these four parts
abbrev pub contents : {I : Type 0} → ℕ → ℕ → List (Operation I) → List ℕ → Contents I
contents kind k ops order = record { kind = kind; k = k; ops = ops; order = order }

module _ {I : Type 0} (t : Ghosts I) where
  -- the bytes of a trace with these contents
  abbrev pub encode : Contents I → List ℕ
  encode c = bytes_of_header t.TYPE c.kind (length c.ops) c.k ++ flat_map (encode_record t) c.ops ++ flat_map (bytes_of_number 2) c.order

  -- the fields of each operation fit
  abbrev pub AllFit : List (Operation I) → Type 0
  AllFit = AllByRecursion (Fit t)

  -- contents that a trace can have: a kind from 0 to 2, a k of 16 bits, operations that a sheet with that much room can hold,
  -- and an order of as many numbers of 16 bits
  pub record Sound (room : ℕ) (c : Contents I) : Type 0 where
    pub kind : c.kind ≤ 2
    pub k : c.k < 2 ^ 16
    pub count : length c.ops ≤ 1024
    pub place : length c.ops ≤ room
    pub ordered : length c.order ≡ length c.ops
    pub small : Small c.order
    pub fits : AllFit c.ops
    pub consistent : Consistent [] c.ops
