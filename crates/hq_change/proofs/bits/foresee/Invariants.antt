use Rattle.std.proofs.Common.{◌≤◌, length}
use Rattle.hq_job.specs.Heads.{SameButHeads}
use Rattle.hq_job.specs.Plan.{plan}
use Rattle.hq_change.specs.Foresight.{AllForeseen}
use Rattle.hq_change.proofs.bits.foresee.Given as goal

abbrev pub invariant-down : goal.invariant-down
invariant-down g l = record {
  few : l.to ≤ length l.job.packets;
  all : AllForeseen l.floor l.to (plan l.fn.job) (plan l.job);
  same : SameButHeads l.fn.job l.job;
}

abbrev pub decreases-down : goal.decreases-down
decreases-down g l = l.to
