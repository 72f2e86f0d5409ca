use Rattle.std.proofs.Common.{take}
use Rattle.std.specs.Io.KnownBytes.{Appends}
use Rattle.hq_showing.specs.Show.{packets_text}
use Rattle.hq_showing.proofs.show.show_packets.Given as goal

abbrev pub invariant-loop-number : goal.invariant-loop-number
invariant-loop-number g l = Appends (g.W.Write.contents l.initial.writer) (g.W.Write.contents l.writer) (packets_text l.queues 0 (take l.number l.packets))
