use Rattle.std.proofs.Common.{◌≡◌, ℕ, ◌<◌}
use Rattle.hq_fence.specs.Asking.{Answers}
use Rattle.hq_fence.specs.Judgement.{begin_of, end_of}
use Rattle.hq_fence.specs.declared.search.Ending.{Ending}
use Rattle.hq_fence.specs.declared.shown.Release.{Release}
use Rattle.hq_fence.proofs.search.Search.any_from.Given as goal

abbrev pub invariant-loop-x2 : goal.invariant-loop-x2
invariant-loop-x2 l = (k : ℕ) → k < l.x2 → (fences : Release) (end : Ending) → begin_of fences ≡ l.x → end_of fences ≡ k → Answers l.self.before.now l.self.p l.self.r l.self.form l.self.goal fences end → ⊥
