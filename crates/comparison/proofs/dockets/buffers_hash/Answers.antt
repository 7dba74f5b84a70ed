use Rattle.std.proofs.Common.{◌≡◌, ◌∙◌, rules, tests, ◌++◌, sym, ap, vec_items}
use Rattle.std.specs.Int.{to_be_bytes, w64}
use Rattle.std.specs.List.{flat_map}
use Rattle.std.proofs.lemmas.Iterator.{YieldsList-from_slice}
use Rattle.std.proofs.lemmas.Iterator.Consumers.{fold_from_yields_List}
use Rattle.comparison.specs.Hashes.{hashed, hash_of, bytes_of_shorts}
use Rattle.comparison.proofs.Hashings.{fold-hashed, hashed-append}
use Rattle.comparison.proofs.dockets.buffers_hash.Goals as goal

pub returns : goal.returns
returns c =
    let b = c.args.buffers.now in
    let r = bytes_of_shorts (vec_items b.ranks) in
    let i = flat_map (to_be_bytes w64) (vec_items b.instants) in
    let t = bytes_of_shorts (vec_items b.latenesses) in
    let one : c.hash_shorts-hash.result ≡ hash_of r = cc in
    let two : c.fold-hash.result ≡ hashed (hash_of r) i =
    fold_from_yields_List _ (λ h n. hashed h (to_be_bytes w64 n)) c.hash_shorts-hash.result c.fold-hash.result c.fold-hash.ensures.ran (YieldsList-from_slice (vec_items b.instants) (cc)) (λ a x b q k. search (rules, tests))
    ∙ fold-hashed (to_be_bytes w64) c.hash_shorts-hash.result (vec_items b.instants)
    ∙ ap (λ h. hashed h i) one in
    let three : c.hash_shorts.result ≡ hashed (hashed (hash_of r) i) t =
    c.hash_shorts.ensures ∙ ap (λ l. hashed c.fold-hash.result (bytes_of_shorts l)) c.deref-3.ensures.value ∙ ap (λ h. hashed h t) two in
    three ∙ sym (hashed-append 14695981039346656037 r (i ++ t) ∙ hashed-append (hash_of r) i t)
