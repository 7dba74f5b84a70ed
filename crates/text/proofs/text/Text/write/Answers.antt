use Rattle.std.proofs.Common.{◌≡◌, ◌+◌, ◌++◌, ◌&&◌, ◌==◌, length, take, drop, sym, refl, ap, ◌∙◌, nat_le}
use Rattle.text.specs.Contents.{with_words}
use Rattle.text.proofs.Contents.{in_front, behind, fits_whole}
use Rattle.text.proofs.text.Text.write.Goals as goal
use Rattle.text.proofs.text.Text.write.Goals.{then-self, else-self}

pub returns : goal.returns
unfolding with_words
returns c =
    let t = c.args.self.now in
    let w = c.args.word.now in
    let fit = c.write_at-fit.result in
    let e = c.write_at-fit.ensures in
    let whole : c.if-self.self ≡ (t.whole && (fit == length w)) = elim c.if-self.branch [
      | then-self b ↦ b.self-is ∙ ap (λ z. z && (fit == length w)) (sym b.if-self.true)
      | else-self b ↦ b.self-is ∙ b.if-self.false ∙ ap (λ z. z && (fit == length w)) (sym b.if-self.false)
    ] in
    let bytes : take (t.written + fit) c.write_at-fit.new.memory ≡ take t.written t.memory.now ++ take (length (drop t.written t.memory.now)) w =
    ap (take (t.written + fit)) e.memory ∙ in_front t.memory.now w t.written fit t.within e.fit in
    let free : drop (t.written + fit) c.write_at-fit.new.memory ≡ drop (length w) (drop t.written t.memory.now) =
    ap (drop (t.written + fit)) e.memory ∙ behind t.memory.now w t.written fit t.within e.fit in
    let said : c.if-self.self ≡ (t.whole && nat_le (length w) (length (drop t.written t.memory.now))) =
    whole ∙ ap (λ z. t.whole && z) (fits_whole t.memory.now w t.written fit t.within e.fit) in
    rw (bytes, free, said) refl
