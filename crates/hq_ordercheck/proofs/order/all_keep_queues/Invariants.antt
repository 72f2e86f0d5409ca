use Rattle.std.proofs.Common.{ℕ, ◌<◌}
use Rattle.hq_job.specs.Plan.{plan}
use Rattle.hq_model.specs.Job.{packet, Earlier}
use Rattle.hq_ordercheck.specs.Placed.{StandsAhead}
use Rattle.hq_ordercheck.proofs.order.all_keep_queues.Given as goal

abbrev pub invariant-loop-queue : goal.invariant-loop-queue
invariant-loop-queue l = (p r : ℕ) → Earlier (plan l.job) p r → (packet (plan l.job) r).queue < l.queue → StandsAhead l.places p r
