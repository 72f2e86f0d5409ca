use Rattle.std.proofs.Common.{◌≡◌, ◌++◌, take}
use Rattle.hq_job.specs.Numbering.{with_key}
use Rattle.hq_job.proofs.numbering.push_queue.Given as goal

abbrev pub invariant-loop-packet : goal.invariant-loop-packet
invariant-loop-packet l = l.packets.items ≡ l.fn.packets.items ++ with_key (λ p. p.queue) (take l.packet-index l.placed) l.queue
