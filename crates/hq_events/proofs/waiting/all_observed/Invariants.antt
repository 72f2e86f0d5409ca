use Rattle.std.proofs.Common.{ℕ, ◌<◌, IsTrue, slice_index_or, false}
use Rattle.hq_events.specs.Waits.{Waits}
use Rattle.hq_events.proofs.waiting.all_observed.Given as goal

abbrev pub invariant-loop-slot : goal.invariant-loop-slot
invariant-loop-slot l = (k : ℕ) → k < l.slot → Waits l.slots k → IsTrue (slice_index_or l.observed k false)
