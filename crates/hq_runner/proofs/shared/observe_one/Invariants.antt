use Rattle.std.proofs.Common.{◌≤◌, ◌-◌, length}
use Rattle.hq_runner.proofs.shared.observe_one.Given as goal

abbrev pub invariant-loop-slot : goal.invariant-loop-slot
invariant-loop-slot l = l.slot ≤ length l.slots

abbrev pub decreases-loop-slot : goal.decreases-loop-slot
decreases-loop-slot l = length l.slots - l.slot
