use Rattle.std.proofs.Common.{ℕ, ◌<◌}
use Rattle.hq_job.specs.Plan.{plan}
use Rattle.hq_ordercheck.specs.Placed.{HasSlot}
use Rattle.hq_ordercheck.proofs.rings.all_have_slots.Given as goal

abbrev pub invariant-loop-m : goal.invariant-loop-m
invariant-loop-m l = (m : ℕ) → m < l.m → HasSlot (plan l.job) l.turns l.places m
