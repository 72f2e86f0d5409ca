-- Single changes of a job: the barrier bit of one packet is set, or one of its fences gets a scope that reaches
-- farther.
use Rattle.std.specs.Prelude.{◌≡◌, ℕ, Bool, true, false, not, IsTrue}
use Rattle.hq_packet.specs.declared.packet.Head.{Head}
use Rattle.hq_packet.specs.declared.packet.Scope.{Scope}
use Rattle.hq_model.specs.Job.{Job, IsPacket}
use Rattle.hq_packet.specs.Scopes.{reaches}
use Rattle.hq_model.specs.Settings.{head_at, with_head}
use Rattle.hq_audit.specs.Refused.{ShownOneWay}
use Rattle.hq_explain.specs.declared.change.Change.{Change}
use Rattle.hq_explain.specs.declared.change.Change.TheVariants as change
use Rattle.hq_explain.specs.declared.change.Fence.TheVariants as fence

-- the head with one change
abbrev pub changed : Change → Head → Head
changed change.Bit head = record head { barrier = true }
changed (change.Scope fence.Acquire scope) head = record head { acquire = scope }
changed (change.Scope fence.Release scope) head = record head { release = scope }

-- whether a scope reaches farther than another
abbrev pub is_wider : Scope → Scope → Bool
is_wider scope than = not (reaches than scope)

-- The change raises the head: its bit isn't set, or the fence has a scope that reaches less far.
abbrev pub IsRaise : Change → Head → Type 0
IsRaise change.Bit head = head.barrier ≡ false
IsRaise (change.Scope fence.Acquire scope) head = IsTrue (is_wider scope head.acquire)
IsRaise (change.Scope fence.Release scope) head = IsTrue (is_wider scope head.release)

-- the job in which packet p has this change, and all else is as it was
abbrev pub job_changed : Job → ℕ → Change → Job
job_changed job p change = with_head job p (changed change (head_at job p))

-- The change raises packet p's head, and with it alone all conflicts of a and b are ordered, in one direction.
pub record Orders (job : Job) (a b p : ℕ) (change : Change) : Type 0 where
  pub is_packet : IsPacket job p
  pub raises : IsRaise change (head_at job p)
  pub orders : ShownOneWay (job_changed job p change) a b
