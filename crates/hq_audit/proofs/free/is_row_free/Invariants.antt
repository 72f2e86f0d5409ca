use Rattle.std.proofs.Common.{◌<◌, ◌-◌, length}
use Rattle.hq_job.specs.Plan.{plan}
use Rattle.hq_audit.specs.Free.{RowFree}
use Rattle.hq_audit.proofs.free.is_row_free.Given as goal

abbrev pub invariant-others : goal.invariant-others
invariant-others l = record {
  above : l.a < l.b;
  free : RowFree (plan l.job) l.a l.b;
}

abbrev pub decreases-others : goal.decreases-others
decreases-others l = length l.job.packets - l.b
