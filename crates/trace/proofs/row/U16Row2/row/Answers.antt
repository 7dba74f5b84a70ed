use Rattle.std.proofs.Common.{sym, ◌∙◌}
use Rattle.record.proofs.Digits.{bytes_two}
use Rattle.trace.proofs.row.U16Row2.row.Goals as goal

pub returns-clause-bytes : goal.returns-clause-bytes
returns-clause-bytes c = c.to_be_bytes.ensures ∙ sym (bytes_two c.args.self.now)
