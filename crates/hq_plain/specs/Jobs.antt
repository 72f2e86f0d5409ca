-- Faults of jobs and packets in plain words.
use Rattle.std.specs.Prelude.{ℕ, List, [], ◌++◌, codes}
use Rattle.std.specs.Fmt.{decimal}
use Rattle.hq_packet.specs.declared.fault.PacketFault.{PacketFault}
use Rattle.hq_packet.specs.declared.fault.PacketFault.TheVariants as packet
use Rattle.hq_footprint.specs.declared.fault.FootFault.{FootFault}
use Rattle.hq_footprint.specs.declared.fault.FootFault.TheVariants as foot
use Rattle.hq_tables.specs.declared.fault.Reason.{Reason}
use Rattle.hq_tables.specs.declared.fault.Reason.TheVariants as reason
use Rattle.hq_jobtext.specs.declared.fault.JobFault.{JobFault}

-- what is wrong with a packet
abbrev pub packet_words : PacketFault → List ℕ
packet_words packet.ReservedFormat = codes "a reserved format"
packet_words packet.Vendor = codes "a vendor-specific packet"
packet_words packet.Invalid = codes "an invalid packet"
packet_words packet.HeaderReserved = codes "reserved bits of the header that aren't zero"
packet_words packet.FenceScope = codes "a reserved fence scope"
packet_words (packet.ReservedField offset) = codes "a reserved field that isn't zero, at byte " ++ decimal offset
packet_words packet.Dimensions = codes "a count of dimensions other than 1, 2 or 3"
packet_words packet.ZeroSize = codes "a used dimension of size zero"
packet_words packet.UnusedNotOne = codes "an unused dimension of a size other than one"

-- what is wrong with a footprint
abbrev pub foot_words : FootFault → List ℕ
foot_words foot.Overflow = codes "a range that passes 2^64"
foot_words foot.OutsideBuffer = codes "a range that isn't within one buffer"
foot_words foot.ArgsShort = codes "a kernarg block shorter than the arguments"
foot_words foot.Service = codes "an unknown type of service"

-- what is wrong with a job's line
abbrev pub plain_reason : Reason → List ℕ
plain_reason reason.Byte = codes "a byte that is neither printable ASCII nor a line feed"
plain_reason reason.Word =
    codes "an unknown or misplaced first word, a wrong count of words, a bad name or code, or a line behind `end`"
plain_reason reason.Number = codes "a word that is no number, or is out of its range"
plain_reason reason.Limit = codes "one more than the limits allow"
plain_reason reason.Duplicate = codes "a name, handle, object or address that its own kind has already"
plain_reason reason.Unknown = codes "an agent or a queue that wasn't declared, or a packet before any queue"
plain_reason reason.BufferOverlap = codes "a buffer that shares a byte with an earlier one"
plain_reason (reason.Packet fault) = codes "a packet that is refused"
plain_reason reason.Hex = codes "a wrong digit, or a wrong count of digits"
plain_reason reason.QueueSize = codes "a queue's size that is no power of two"
plain_reason reason.QueueFull = codes "more packets than the queue has slots, which takes `hsaq 2`"
plain_reason reason.Handle = codes "a kernel object, kernarg address or signal that wasn't declared"
plain_reason (reason.Footprint fault) = codes "a footprint that is refused"
plain_reason reason.NullOr = codes "a barrier-OR whose dependencies are all null"
plain_reason (reason.Undershoot handle) = codes "more packets complete on a signal than it starts with"
plain_reason (reason.NeverZero handle) =
    codes "fewer packets complete on a signal that a barrier packet waits on than it starts with"
plain_reason reason.Service = codes "an unknown type of service"
plain_reason reason.NoEnd = codes "the text ends without `end`"
plain_reason reason.Items = codes "more than 65,536 work-items"
plain_reason reason.Read = codes "the reader failed or passed its turns"
plain_reason reason.Memory = codes "out of memory"

-- what is wrong with the line's packet or its footprint, or the signal's handle; of other lines there is no more to say
abbrev pub detail_words : Reason → List ℕ
detail_words (reason.Packet fault) = codes ": " ++ packet_words fault
detail_words (reason.Footprint fault) = codes ": " ++ foot_words fault
detail_words (reason.Undershoot handle) = codes ", handle " ++ decimal handle
detail_words (reason.NeverZero handle) = codes ", handle " ++ decimal handle
detail_words _ = []

-- the refusal of a job's text: the line, and what is wrong with it
abbrev pub job_words : JobFault → List ℕ
job_words fault = codes "in the job, line " ++ decimal fault.line ++ codes ": " ++ plain_reason fault.reason
    ++ detail_words fault.reason
