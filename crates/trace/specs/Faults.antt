-- What the faults of reading, writing and copying say.
use Rattle.std.specs.Prelude.{ℕ}
use Rattle.refusal.specs.declared.Refusal.{Refusal}
use Rattle.sheet.specs.Faults.{sheet_refusal}
use Rattle.record.specs.Faults.{record_refusal}
use Rattle.frame.specs.Faults.{of_frame, frame_refusal}
use Rattle.trace.specs.declared.fault.EntryFault.{EntryFault}
use Rattle.trace.specs.declared.fault.EntryFault.TheVariants.{Record, Sheet}
use Rattle.trace.specs.declared.fault.ReadFault.{ReadFault}
use Rattle.trace.specs.declared.fault.ReadFault.TheVariants.{Frame, Entry}
use Rattle.trace.specs.declared.fault.WriteFault.{WriteFault}
use Rattle.trace.specs.declared.fault.WriteFault.TheVariants as writing
use Rattle.trace.specs.declared.fault.CopyFault.{CopyFault}
use Rattle.trace.specs.declared.fault.CopyFault.TheVariants.{Reading, Writing}

-- of the record at that place
abbrev pub entry_refusal : ℕ → EntryFault → Refusal
entry_refusal place (Record fault) = record_refusal place fault
entry_refusal place (Sheet fault) = sheet_refusal fault

-- of reading: the frame's, or that of the record
abbrev pub read_refusal : ReadFault → Refusal
read_refusal (Frame fault) = frame_refusal fault
read_refusal (Entry refused) = entry_refusal refused.place refused.fault

-- of writing: they count as the frame's
abbrev pub write_refusal : WriteFault → Refusal
write_refusal writing.Kind = of_frame 3
write_refusal writing.OrderLength = of_frame 52
write_refusal writing.Memory = of_frame 51

-- of a copy: that of reading, or that of writing
abbrev pub copy_refusal : CopyFault → Refusal
copy_refusal (Reading fault) = read_refusal fault
copy_refusal (Writing fault) = write_refusal fault
