use Rattle.std.proofs.Common.{ℕ, ◌<◌, slice_index}
use Rattle.hq_job.specs.Plan.{plan}
use Rattle.hq_graph.specs.Known.{HasNoSlot}
use Rattle.hq_graph.proofs.turns.first_barred.Given as goal

abbrev pub invariant-loop-turn : goal.invariant-loop-turn
invariant-loop-turn l = (k : ℕ) → k < l.turn → ¬ HasNoSlot (plan l.job) l.set (slice_index l.job.submissions k)
