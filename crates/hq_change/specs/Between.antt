-- Jobs some of whose packets were given other heads.
use Rattle.std.specs.Prelude.{◌≡◌, ℕ, ◌<◌, ◌≤◌, ◌⊎◌, List, Some, slice_get}
use Rattle.hq_packet.specs.declared.packet.Head.{Head}
use Rattle.hq_model.specs.Job.{Job}
use Rattle.hq_model.specs.Settings.{SameButHeads, head_at}

-- The packets from one number up to another have these heads in the new job; all else is as in the old one.
pub record SetBetween (heads : List Head) (from to : ℕ) (old new : Job) : Type 0 where
  pub same : SameButHeads old new
  pub inside : (p : ℕ) (head : Head) → from ≤ p → p < to → slice_get heads p ≡ Some head → head_at new p ≡ head
  pub others : (p : ℕ) → (p < from) ⊎ (to ≤ p) → head_at new p ≡ head_at old p
