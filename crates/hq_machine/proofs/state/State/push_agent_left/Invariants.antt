use Rattle.std.proofs.Common.{ℕ, ◌<◌}
use Rattle.hq_job.specs.Plan.{plan}
use Rattle.hq_model.specs.Machine.Event.{PushAgent}
use Rattle.hq_machine.specs.WorkLeft.{NoneOf}
use Rattle.hq_machine.proofs.state.State.push_agent_left.Given as goal

abbrev pub invariant-loop-agent : goal.invariant-loop-agent
invariant-loop-agent l = (a : ℕ) → a < l.agent → NoneOf (plan l.job) l.self (PushAgent a)
