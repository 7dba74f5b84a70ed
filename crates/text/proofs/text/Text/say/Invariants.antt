use Rattle.std.proofs.Common.{◌≡◌, take}
use Rattle.std.specs.List.{flat_map}
use Rattle.text.specs.Contents.{content, with_words, piece_words}
use Rattle.text.proofs.text.Text.say.Given as goal

abbrev pub invariant-loop-piece : goal.invariant-loop-piece
invariant-loop-piece l = content l.self ≡ with_words (flat_map piece_words (take l.piece-index l.pieces)) (content l.initial.self)
