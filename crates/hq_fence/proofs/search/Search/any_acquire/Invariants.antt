use Rattle.std.proofs.Common.{◌≡◌, ℕ, ◌<◌}
use Rattle.hq_fence.specs.Asking.{FollowsWith}
use Rattle.hq_fence.specs.Judgement.{first_of}
use Rattle.hq_fence.specs.declared.search.Form.TheVariants as form
use Rattle.hq_fence.specs.declared.shown.Acquire.{Acquire}
use Rattle.hq_fence.proofs.search.Search.any_acquire.Given as goal

abbrev pub invariant-loop-y2 : goal.invariant-loop-y2
invariant-loop-y2 l = (k : ℕ) → k < l.y2 → (fences : Acquire) → first_of fences ≡ k → FollowsWith l.self.before.now l.self.p l.self.r form.Any l.other fences → ⊥
