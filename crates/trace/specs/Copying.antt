-- What reading a trace and writing it back answers.
use Rattle.std.specs.Prelude.{ℕ, ◌+◌, ◌*◌, cond, length, Ok, Err, Result, nat_lt}
use Rattle.trace.specs.declared.fault.ReadFault.TheVariants.{Frame, Entry}
use Rattle.trace.specs.declared.fault.WriteFault.TheVariants.{Memory}
use Rattle.trace.specs.declared.fault.CopyFault.{CopyFault}
use Rattle.trace.specs.declared.fault.CopyFault.TheVariants.{Reading, Writing}
use Rattle.trace.specs.Reading.{Outcome}
use Rattle.trace.specs.Reading.Outcome.{unread, refused, accepted}
use Rattle.trace.specs.Answers.{Said, saying_of}

-- from the outcome of reading, with memory of that many bytes to write back into
abbrev pub copying : {I : Type 0} → ℕ → Outcome I → Result Said CopyFault
copying bytes (unread e) = Err (Reading (Frame e))
copying bytes (refused os i e) = Err (Reading (Entry (record { place = i; fault = e })))
copying bytes (accepted c) = cond (nat_lt bytes (8 + 26 * length c.ops)) (Err (Writing Memory)) (Ok (saying_of c))
