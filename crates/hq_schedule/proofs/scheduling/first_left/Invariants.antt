use Rattle.std.proofs.Common.{ℕ, ◌<◌, ◌-◌, IsTrue}
use Rattle.hq_bits.specs.Bits.{has}
use Rattle.hq_schedule.proofs.scheduling.first_left.Given as goal

abbrev pub invariant-loop-first : goal.invariant-loop-first
invariant-loop-first l = (r : ℕ) → r < l.first → IsTrue (has l.come r)

abbrev pub decreases-loop-first : goal.decreases-loop-first
decreases-loop-first l = l.count - l.first
