use Rattle.std.proofs.Common.{◌≤◌}
use Rattle.hq_job.specs.Heads.{SameButHeads}
use Rattle.hq_job.specs.Plan.{plan}
use Rattle.hq_change.specs.Between.{SetBetween}
use Rattle.hq_change.proofs.heads.set_between.Given as goal

abbrev pub invariant-loop-p : goal.invariant-loop-p
invariant-loop-p l = record {
  above : l.from ≤ l.p;
  set : SetBetween l.heads l.from l.p (plan l.fn.job) (plan l.job);
  same : SameButHeads l.fn.job l.job;
}
