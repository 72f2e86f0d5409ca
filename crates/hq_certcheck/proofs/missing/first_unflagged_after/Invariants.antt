use Rattle.std.proofs.Common.{◌-◌, ◌≤◌, ◌<◌, length}
use Rattle.hq_job.specs.Plan.{plan}
use Rattle.hq_certcheck.specs.Covering.{AllFlagged}
use Rattle.hq_certcheck.proofs.missing.first_unflagged_after.Given as goal

abbrev pub invariant-suspects : goal.invariant-suspects
invariant-suspects l = record {
  above : l.p < l.r;
  below : l.r ≤ length l.job.packets;
  flagged : AllFlagged (plan l.job) l.flags l.p l.r;
}

abbrev pub decreases-suspects : goal.decreases-suspects
decreases-suspects l = length l.job.packets - l.r
