use Rattle.std.proofs.Common.{◌+◌, ◌*◌, ◌<◌, ◌≤◌, ◌∙◌, ⊎_elim, arith}
use Rattle.std.proofs.lemmas.Bool.{cases_lt}
use Rattle.std.proofs.lemmas.List.{get_or-replicate}
use Rattle.docket.proofs.Awaiting.{kept_at, past_ends}
use Rattle.docket.proofs.ledger.awaited.Awaited.of.Goals as goal

pub write_ends-requires-clause-last : goal.write_ends-requires-clause-last
write_ends-requires-clause-last c = λ p h. get_or-replicate 2048 p _ 0 h

pub loop-first-init : goal.loop-first-init
loop-first-init c =
    let made = c.write_ends.ensures in (
      made.long,
      omega arith,
      omega arith,
      omega arith,
      omega (arith, c.requires),
      λ q low high. absurd (omega arith),
      made.below,
      λ q low high. past_ends c.write_ends.new.least c.args.table.now made.ends q low high,
      made.ends,
    )

pub loop-first-preserved : goal.loop-first-preserved
loop-first-preserved c =
    let ts = c.loop-first.least in
    let us = c.write_level.new.least in
    let lo = c.loop-first.first in
    let hi = c.loop-first.past in
    let up = c.div_ceil-past.result in
    let was = c.loop-first.invariant in
    let e = c.write_level.ensures in (
      e.long,
      omega arith,
      omega arith,
      omega arith,
      omega arith,
      λ q low high.
          ⊎_elim
          (λ (h : q < up). e.lesser q low h)
          (λ (h : up ≤ q).
          kept_at ts us q (e.after q h) (e.after (2 * q) (omega arith)) (e.after (2 * q + 1) (omega arith))
          (⊎_elim
          (λ (l : q < lo). omega (arith, was.6 q l, was.7 (2 * q) (omega arith) (omega arith), was.7 (2 * q + 1) (omega arith) (omega arith)))
          (λ (l : lo ≤ q). was.5 q l high)
          (cases_lt q lo)))
          (cases_lt q up),
      λ q h. e.before q h ∙ was.6 q (omega arith),
      λ q low high. e.after q low ∙ was.6 q (omega arith),
      λ x h. e.after (1024 + x) (omega arith) ∙ was.8 x h,
    )

pub invariant_of-result : goal.invariant_of-result
invariant_of-result c = record { long = c.loop-first.invariant.0; lesser = λ p pos high. c.loop-first.invariant.5 p (omega arith) high }

pub returns : goal.returns
returns c = record { ends = c.loop-first.invariant.8; unused = c.loop-first.invariant.6 0 (omega arith) }
