use Rattle.std.proofs.Common.{◌≤◌, ◌-◌, length}
use Rattle.hq_job.specs.Plan.{plan}
use Rattle.hq_machine.specs.Pushes.{Swept}
use Rattle.hq_machine.specs.Pushes.Holders.{Lanes}
use Rattle.hq_machine.proofs.coarse.push_lanes.Given as goal

abbrev pub invariant-queues : goal.invariant-queues
invariant-queues l = record {
  within : l.lane ≤ length (plan l.job).packets;
  swept : Swept Lanes l.fn.copies 0 l.lane l.copies;
}

abbrev pub decreases-queues : goal.decreases-queues
decreases-queues l = length (plan l.job).packets - l.lane
