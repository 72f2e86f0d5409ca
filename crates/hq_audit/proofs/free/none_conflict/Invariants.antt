use Rattle.hq_job.specs.Plan.{plan}
use Rattle.hq_audit.specs.Free.{RowsFree}
use Rattle.hq_audit.proofs.free.none_conflict.Given as goal

abbrev pub invariant-loop-a : goal.invariant-loop-a
invariant-loop-a l = record { free : RowsFree (plan l.job) l.a }
