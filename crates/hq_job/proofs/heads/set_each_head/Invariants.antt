use Rattle.std.proofs.Common.{◌≡◌}
use Rattle.hq_job.proofs.GivenHeads.{some_with}
use Rattle.hq_job.proofs.heads.set_each_head.Given as goal

abbrev pub invariant-loop-packet : goal.invariant-loop-packet
invariant-loop-packet l = l.packets ≡ some_with l.fn.head l.packet-index l.fn.packets
