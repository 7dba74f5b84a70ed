-- How a refusal is printed.
use Rattle.std.specs.Prelude.{ℕ, List, ◌++◌, codes, decimal}
use Rattle.refusal.specs.declared.Layer.{Layer}
use Rattle.refusal.specs.declared.Layer.TheVariants.{Frame, Record, Item, Sheet, Docket, Holder}
use Rattle.refusal.specs.declared.Refusal.{Refusal}

-- the word of each layer
abbrev pub layer_name : Layer → List ℕ
layer_name Frame = codes "frame"
layer_name Record = codes "record"
layer_name Item = codes "item"
layer_name Sheet = codes "sheet"
layer_name Docket = codes "docket"
layer_name Holder = codes "holder"

-- the line of a refusal, without its line feed
abbrev pub refusal_line : Refusal → List ℕ
refusal_line r =
    codes "refused " ++ (layer_name r.layer ++ (codes " " ++ (decimal r.number ++ (codes " place " ++ (decimal r.place ++ (codes " detail " ++ decimal r.detail))))))
