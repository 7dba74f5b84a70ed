use Rattle.std.proofs.Common.{◌+◌, ◌*◌, rules}
use Rattle.record.proofs.Digits.{bytes_two}
use Rattle.frame.specs.Kinds.{kind_number}
use Rattle.trace.proofs.write.header_bytes.Goals as goal

pub returns : goal.returns
returns c =
    rw (bytes_two (4096 + kind_number c.args.kind * 256 + c.args.item_type * 16), bytes_two c.args.count, bytes_two c.args.k, bytes_two 0) (search rules)
