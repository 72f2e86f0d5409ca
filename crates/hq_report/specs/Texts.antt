-- The program's refusals as texts.
use Rattle.std.specs.Prelude.{ℕ, List, ◌++◌, codes}
use Rattle.std.specs.Fmt.{decimal}
use Rattle.hq_packet.specs.declared.fault.PacketFault.{PacketFault}
use Rattle.hq_packet.specs.declared.fault.PacketFault.TheVariants as packet
use Rattle.hq_footprint.specs.declared.fault.FootFault.{FootFault}
use Rattle.hq_footprint.specs.declared.fault.FootFault.TheVariants as foot
use Rattle.hq_tables.specs.declared.fault.Reason.{Reason}
use Rattle.hq_tables.specs.declared.fault.Reason.TheVariants as reason
use Rattle.hq_jobtext.specs.declared.fault.JobFault.{JobFault}

-- a packet fault's code, with the offset of the reserved field
abbrev pub packet_code : PacketFault → List ℕ
packet_code packet.ReservedFormat = codes "P1"
packet_code packet.Vendor = codes "P2"
packet_code packet.Invalid = codes "P3"
packet_code packet.HeaderReserved = codes "P4"
packet_code packet.FenceScope = codes "P5"
packet_code (packet.ReservedField offset) = codes "P6 " ++ decimal offset
packet_code packet.Dimensions = codes "P7"
packet_code packet.ZeroSize = codes "P8"
packet_code packet.UnusedNotOne = codes "P9"

-- the refusal of a packet, with the fault's code
abbrev pub packet_refusal : PacketFault → List ℕ
packet_refusal fault = codes "refused " ++ packet_code fault

-- a footprint fault's code
abbrev pub foot_code : FootFault → List ℕ
foot_code foot.Overflow = codes "F1"
foot_code foot.OutsideBuffer = codes "F2"
foot_code foot.ArgsShort = codes "F3"
foot_code foot.Service = codes "F4"

-- the code of a job's refusal, with the packet's or the footprint's code or the signal's handle
abbrev pub reason_code : Reason → List ℕ
reason_code reason.Byte = codes "J1"
reason_code reason.Word = codes "J2"
reason_code reason.Number = codes "J3"
reason_code reason.Limit = codes "J4"
reason_code reason.Duplicate = codes "J5"
reason_code reason.Unknown = codes "J6"
reason_code reason.BufferOverlap = codes "J7"
reason_code (reason.Packet fault) = codes "J8 " ++ packet_code fault
reason_code reason.Hex = codes "J9"
reason_code reason.QueueSize = codes "J10"
reason_code reason.QueueFull = codes "J11"
reason_code reason.Handle = codes "J12"
reason_code (reason.Footprint fault) = codes "J13 " ++ foot_code fault
reason_code reason.NullOr = codes "J14"
reason_code (reason.Undershoot handle) = codes "J15 " ++ decimal handle
reason_code (reason.NeverZero handle) = codes "J16 " ++ decimal handle
reason_code reason.Service = codes "J17"
reason_code reason.NoEnd = codes "J18"
reason_code reason.Items = codes "J19"
reason_code reason.Read = codes "J20"
reason_code reason.Memory = codes "J21"

-- the refusal of a job's text: the line, and the code of what is wrong with it
abbrev pub job_refusal : JobFault → List ℕ
job_refusal fault = codes "refused line " ++ decimal fault.line ++ codes " " ++ reason_code fault.reason
