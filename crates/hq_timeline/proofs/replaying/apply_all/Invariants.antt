use Rattle.std.proofs.Common.{take}
use Rattle.hq_job.specs.Plan.{plan}
use Rattle.hq_timeline.specs.Replays.{Goes}
use Rattle.hq_timeline.proofs.replaying.apply_all.Given as goal

abbrev pub invariant-loop-place : goal.invariant-loop-place
invariant-loop-place l = Goes (plan l.job) l.initial.state (take l.place l.events) l.state
