use Rattle.std.proofs.Common.{take}
use Rattle.hq_parts.proofs.Parting.{AreOf}
use Rattle.hq_parts.proofs.parts.touches_of.Given as goal

abbrev pub invariant-loop-packet : goal.invariant-loop-packet
invariant-loop-packet l = AreOf l.size l.touches.items (take l.packet-index l.job.packets)
