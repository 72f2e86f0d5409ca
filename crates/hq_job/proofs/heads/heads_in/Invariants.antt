use Rattle.std.proofs.Common.{◌≡◌, map, take}
use Rattle.hq_packet.specs.Parts.{head_of}
use Rattle.hq_job.proofs.heads.heads_in.Given as goal

abbrev pub invariant-loop-packet : goal.invariant-loop-packet
invariant-loop-packet l = l.heads.items ≡ map (λ p. head_of p.packet) (take l.packet-index l.packets)
