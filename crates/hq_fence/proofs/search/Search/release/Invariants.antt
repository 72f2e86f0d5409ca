use Rattle.std.proofs.Common.{◌≡◌, ℕ, ◌<◌}
use Rattle.hq_fence.specs.Asking.{Answers}
use Rattle.hq_fence.specs.Judgement.{begin_of}
use Rattle.hq_fence.specs.Circuits.{number_at}
use Rattle.hq_fence.specs.declared.search.Ending.{Ending}
use Rattle.hq_fence.specs.declared.shown.Release.{Release}
use Rattle.hq_fence.proofs.search.Search.release.Given as goal

abbrev pub invariant-loop-turn : goal.invariant-loop-turn
invariant-loop-turn l = (k : ℕ) → k < l.turn → (fences : Release) (end : Ending) → begin_of fences ≡ number_at l.circuit k → Answers l.self.before.now l.self.p l.self.r l.self.form l.self.goal fences end → ⊥
