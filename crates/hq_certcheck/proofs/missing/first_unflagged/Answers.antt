use Rattle.hq_job.specs.Plan.{plan}
use Rattle.hq_certcheck.proofs.Flagged.{flagged_rows}
use Rattle.hq_certcheck.proofs.missing.first_unflagged.Goals as goal

pub loop-p-preserved : goal.loop-p-preserved
loop-p-preserved c = flagged_rows (plan c.args.job.now) c.args.flags.now c.loop-p.p c.loop-p.invariant c.in_default.ensures
