use Rattle.std.proofs.Common.{◌∙◌, ap, arith, rules, tests, length}
use Rattle.std.specs.Int.{to_be_bytes, w16}
use Rattle.std.specs.Result.{result_ok}
use Rattle.std.proofs.lemmas.Iterator.{YieldsList-from_range}
use Rattle.std.proofs.lemmas.Iterator.Consumers.{YieldsList-from_filter_map, fold_from_yields_List}
use Rattle.holder.specs.Answers.{at_answer}
use Rattle.comparison.specs.Hashes.{hashed, hash_of, bytes_of_shorts}
use Rattle.comparison.proofs.Hashings.{fold-hashed, all_at}
use Rattle.comparison.proofs.dockets.held_hash.Goals as goal

pub returns : goal.returns
returns g c =
    let list = g.H.Holder.giving c.args.holder.now in
    fold_from_yields_List _ (λ h n. hashed h (to_be_bytes w16 n)) _ _ c.fold.ensures.ran
    (YieldsList-from_filter_map _ (λ p. result_ok (at_answer list p)) (YieldsList-from_range 0 (length list) (length list) (cc) (omega arith)) c.filter_map.ensures.closure (λ x r q k. search (rules, tests)))
    (λ a x b q k. search (rules, tests))
    ∙ fold-hashed (to_be_bytes w16) 14695981039346656037 _
    ∙ ap (λ l. hash_of (bytes_of_shorts l)) (all_at list)
