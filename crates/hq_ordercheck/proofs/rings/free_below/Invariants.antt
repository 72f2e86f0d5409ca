use Rattle.std.proofs.Common.{ℕ, ◌<◌, slice_index}
use Rattle.hq_job.specs.Plan.{plan}
use Rattle.hq_model.specs.Job.{Frees}
use Rattle.hq_ordercheck.proofs.rings.free_below.Given as goal

abbrev pub invariant-loop-p : goal.invariant-loop-p
invariant-loop-p l = (p : ℕ) → p < l.p → Frees (plan l.job) p l.m → slice_index l.places p < l.limit
