use Rattle.std.proofs.Common.{rules}
use Rattle.record.specs.Bytes.{bytes_of_number}
use Rattle.record.proofs.encoding.bytes_of_fields.Goals as goal

pub returns : goal.returns
unfolding bytes_of_number
returns c = search rules
