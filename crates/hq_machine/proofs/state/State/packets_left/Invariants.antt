use Rattle.std.proofs.Common.{ℕ, ◌<◌}
use Rattle.hq_job.specs.Plan.{plan}
use Rattle.hq_machine.specs.WorkLeft.{PacketIdle}
use Rattle.hq_machine.proofs.state.State.packets_left.Given as goal

abbrev pub invariant-loop-packet : goal.invariant-loop-packet
invariant-loop-packet l = (p : ℕ) → p < l.packet → PacketIdle (plan l.job) l.self p
