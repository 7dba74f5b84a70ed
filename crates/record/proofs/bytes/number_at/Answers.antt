use Rattle.std.proofs.Common.{take, drop, arith, length-take}
use Rattle.std.proofs.lemmas.Grind.{common_steps}
use Rattle.record.proofs.Digits.{narrow, bytes_of_type, bytes_take, bytes_drop}
use Rattle.record.proofs.bytes.number_at.Goals as goal

pub returns-clause-narrow : goal.returns-clause-narrow
returns-clause-narrow c =
    let at = c.args.at in
    let width = c.args.width in
    let xs = c.args.bytes.now in
    narrow c.big_endian.result width (take width (drop at xs)) (bytes_take width (drop at xs) (bytes_drop at xs (bytes_of_type xs c.type_inv.bytes)))
    (simp length-take (omega arith)) (grind (arith, common_steps))
