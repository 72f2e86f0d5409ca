use Rattle.std.proofs.Common.{ℕ, ◌<◌}
use Rattle.hq_fence.specs.Asking.{AcquiresAfter}
use Rattle.hq_fence.specs.Circuits.{number_at}
use Rattle.hq_fence.proofs.search.Search.acquire_alone.Given as goal

abbrev pub invariant-loop-turn : goal.invariant-loop-turn
invariant-loop-turn l = (k : ℕ) → k < l.turn → AcquiresAfter l.self.before.now l.self.r l.needed l.other (number_at l.circuit k) → ⊥
