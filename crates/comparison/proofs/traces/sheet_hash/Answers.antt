use Rattle.std.proofs.Common.{◌∙◌, rules, tests}
use Rattle.std.proofs.lemmas.Iterator.{YieldsList-from_slice}
use Rattle.std.proofs.lemmas.Iterator.Consumers.{fold_from_yields_List}
use Rattle.sheet.specs.Sheets.{entered}
use Rattle.record.specs.Records.{encode_record}
use Rattle.comparison.specs.Hashes.{hashed}
use Rattle.comparison.proofs.Hashings.{fold-hashed}
use Rattle.comparison.proofs.traces.sheet_hash.Goals as goal

pub returns : goal.returns
returns g c =
    fold_from_yields_List _ (λ h op. hashed h (encode_record g.I.Item op)) _ _ c.fold.ensures.ran (YieldsList-from_slice (entered c.args.sheet.now) (cc)) (λ a x b q k. search (rules, tests))
    ∙ fold-hashed (encode_record g.I.Item) 14695981039346656037 (entered c.args.sheet.now)
