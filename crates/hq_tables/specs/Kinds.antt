-- Which kind of packet of the model a packet is.
use Rattle.hq_packet.specs.declared.packet.Packet.{Packet}
use Rattle.hq_packet.specs.declared.packet.Packet.TheVariants as packet
use Rattle.hq_model.specs.Job as model

-- a kernel or agent dispatch is work
abbrev pub kind_of : Packet → model.Kind
kind_of (packet.Kernel k) = model.Kind.Work
kind_of (packet.Agent a) = model.Kind.Work
kind_of (packet.And b) = model.Kind.BarrierAnd
kind_of (packet.Or b) = model.Kind.BarrierOr
