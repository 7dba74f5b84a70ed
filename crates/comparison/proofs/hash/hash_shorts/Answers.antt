use Rattle.std.proofs.Common.{◌∙◌, rules, tests}
use Rattle.std.specs.Int.{to_be_bytes, w16}
use Rattle.std.proofs.lemmas.Iterator.{YieldsList-from_slice}
use Rattle.std.proofs.lemmas.Iterator.Consumers.{YieldsList-at, YieldsList-from_copied, fold_from_yields_List}
use Rattle.comparison.specs.Hashes.{hashed}
use Rattle.comparison.proofs.Hashings.{fold-hashed}
use Rattle.comparison.proofs.hash.hash_shorts.Goals as goal

pub returns : goal.returns
returns c =
    fold_from_yields_List _ (λ h n. hashed h (to_be_bytes w16 n)) _ _ c.fold.ensures.ran (YieldsList-from_copied (YieldsList-at c.copied.ensures.source (YieldsList-from_slice c.args.numbers.now (cc))))
    (λ a x b q k. search (rules, tests))
    ∙ fold-hashed (to_be_bytes w16) c.args.before c.args.numbers.now
