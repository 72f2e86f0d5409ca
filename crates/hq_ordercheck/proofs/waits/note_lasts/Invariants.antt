use Rattle.std.proofs.Common.{length}
use Rattle.hq_job.specs.Plan.{plan}
use Rattle.hq_ordercheck.proofs.Lasts.{AreLastsTo}
use Rattle.hq_ordercheck.proofs.waits.note_lasts.Given as goal

abbrev pub invariant-loop-number : goal.invariant-loop-number
invariant-loop-number l = AreLastsTo (plan l.job) l.places (length l.job.signals) l.number l.lasts
