use Rattle.std.proofs.Common.{◌≡◌, ◌∙◌, take, sym, ap, arith, take_all}
use Rattle.std.specs.List.{flat_map}
use Rattle.text.specs.Contents.{content, with_words, piece_words}
use Rattle.text.proofs.Contents.{words_behind_words, then_said, nothing_said, one_piece_more}
use Rattle.text.proofs.text.Text.say.Goals as goal

pub loop-piece-init : goal.loop-piece-init
loop-piece-init c = sym (nothing_said (content c.args.self.now))

pub loop-piece-preserved : goal.loop-piece-preserved
loop-piece-preserved c =
    let ps = c.args.pieces.now in
    let n = c.loop-piece.piece-index in
    then_said (flat_map piece_words (take n ps)) _ (content c.args.self.now) c.loop-piece.invariant c.write_piece.ensures
    ∙ ap (λ z. with_words z (content c.args.self.now)) (one_piece_more piece_words ps n _ c.loop-piece-test.true)

pub returns : goal.returns
returns c =
    let ps = c.args.pieces.now in
    let was = content c.args.self.now in
    let all : content c.loop-piece.self ≡ with_words (flat_map piece_words ps) was =
    c.loop-piece.invariant ∙ ap (λ z. with_words (flat_map piece_words z) was) (take_all c.loop-piece.piece-index ps (omega (arith, c.loop-piece-test.false))) in
    record { content = all; words_behind_words_are_one = (λ ws. ap (with_words ws) all ∙ words_behind_words (flat_map piece_words ps) ws was) }
