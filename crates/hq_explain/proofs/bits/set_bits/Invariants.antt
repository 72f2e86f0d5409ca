use Rattle.std.proofs.Common.{◌≡◌, ◌≤◌, length}
use Rattle.hq_job.specs.Plan.{plan}
use Rattle.hq_explain.specs.Trials.{HasBits}
use Rattle.hq_explain.proofs.bits.set_bits.Given as goal

abbrev pub invariant-loop-p : goal.invariant-loop-p
invariant-loop-p l = (l.lo ≤ l.p) × (l.p ≤ l.hi) × HasBits (plan l.fn.job) (plan l.job) l.lo l.p × (length l.job.packets ≡ length l.fn.job.packets)
