-- What is wrong with a line by itself, as a fault of the text.
use Rattle.hq_lines.specs.declared.fault.LineFault.{LineFault}
use Rattle.hq_lines.specs.declared.fault.LineFault.TheVariants as fault
use Rattle.hq_tables.specs.declared.fault.Reason.{Reason}
use Rattle.hq_tables.specs.declared.fault.Reason.TheVariants as reason

-- the same fault, as one of the text; where a kernarg block is too long, that a limit is passed
abbrev pub reason_of : LineFault → Reason
reason_of fault.Byte = reason.Byte
reason_of fault.Word = reason.Word
reason_of fault.Number = reason.Number
reason_of fault.Hex = reason.Hex
reason_of (fault.Packet f) = reason.Packet f
reason_of fault.QueueSize = reason.QueueSize
reason_of fault.TooLong = reason.Limit
reason_of fault.Memory = reason.Memory
