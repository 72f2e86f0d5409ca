use Rattle.std.proofs.Common.{arith}
use Rattle.std.proofs.lemmas.Grind.{common_steps}
use Rattle.hq_job.proofs.job.Job.agent_of.Goals as goal

pub packet-requires : goal.packet-requires
packet-requires c = grind (arith, common_steps)

pub bounds-queues-packet : goal.bounds-queues-packet
bounds-queues-packet c = grind (arith, common_steps)

pub bounds-queues-packet-2 : goal.bounds-queues-packet-2
bounds-queues-packet-2 c = grind (arith, common_steps)

pub returns : goal.returns
returns c = grind (arith, common_steps)
