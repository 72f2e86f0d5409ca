use Rattle.std.proofs.Common.{◌≡◌, length}
use Rattle.hq_job.specs.Plan.{plan}
use Rattle.hq_model.specs.Job.{agent_of}
use Rattle.hq_events.specs.Packets.{AllAre}
use Rattle.hq_events.proofs.packets.lane_agents.Given as goal

abbrev pub invariant-loop-packet : goal.invariant-loop-packet
invariant-loop-packet l = record {
  are : AllAre (λ p a. a ≡ agent_of (plan l.job) p) l.agents.items;
  count : length l.agents.items ≡ l.packet;
}
