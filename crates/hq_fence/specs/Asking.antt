-- What is asked of fences in order, and when an answer is right.
use Rattle.std.specs.Prelude.{◌≡◌, ℕ, ◌≤◌, length}
use Rattle.hq_model.specs.Job.{Job, IsPacket}
use Rattle.hq_model.specs.Order.{Before}
use Rattle.hq_model.specs.Fence.{need, Acquires}
use Rattle.hq_model.specs.declared.limits.TheConstants.{PACKETS}
use Rattle.hq_packet.specs.declared.packet.Scope.{Scope}
use Rattle.hq_fence.specs.Judgement.{end_of, first_of, IsRelease, IsAcquire}
use Rattle.hq_fence.specs.Circuits.{IsQueueOf}
use Rattle.hq_fence.specs.declared.search.Ending.{Ending}
use Rattle.hq_fence.specs.declared.search.Ending.TheVariants as ending
use Rattle.hq_fence.specs.declared.search.Form.{Form}
use Rattle.hq_fence.specs.declared.search.Form.TheVariants as form
use Rattle.hq_fence.specs.declared.search.Goal.{Goal}
use Rattle.hq_fence.specs.declared.search.Goal.TheVariants as goal
use Rattle.hq_fence.specs.declared.search.Search.{Search}
use Rattle.hq_fence.specs.declared.shown.Acquire.{Acquire}
use Rattle.hq_fence.specs.declared.shown.Acquire.TheVariants as acquire
use Rattle.hq_fence.specs.declared.shown.Release.{Release}
use Rattle.hq_fence.specs.declared.shown.Release.TheVariants as release

-- The search is between two packets of a job that was read, with what their queues and agents say.
pub record IsAsked (s : Search) : Type 0 where
  pub p_is : IsPacket s.before.now s.p
  pub r_is : IsPacket s.before.now s.r
  pub few : length s.before.now.packets ≤ PACKETS
  pub needed : s.needed ≡ need s.before.now s.p s.r
  pub queue_of_p : IsQueueOf s.before.now s.p s.queue_of_p
  pub queue_of_r : IsQueueOf s.before.now s.r s.queue_of_r

-- y acquires for r as far as is needed, and comes after another packet.
pub record AcquiresAfter (job : Job) (r : ℕ) (needed : Scope) (other y : ℕ) : Type 0 where
  pub acquires : Acquires job r y needed
  pub after : Before job other y

-- Chains count only where any form does.
abbrev pub IsAcquireIn : Job → ℕ → ℕ → Form → Acquire → Type 0
IsAcquireIn job p r form.Plain (acquire.Alone y) = IsAcquire job p r (acquire.Alone y)
IsAcquireIn job p r form.Plain (acquire.Chained y2 y) = ⊥
IsAcquireIn job p r form.Any fences = IsAcquire job p r fences

-- and so of releases
abbrev pub IsReleaseIn : Job → ℕ → ℕ → Form → Release → Type 0
IsReleaseIn job p r form.Plain (release.Alone x) = IsRelease job p r (release.Alone x)
IsReleaseIn job p r form.Plain (release.Chained x x2) = ⊥
IsReleaseIn job p r form.Any fences = IsRelease job p r fences

-- These fences acquire for r after another packet.
pub record FollowsWith (job : Job) (p r : ℕ) (form : Form) (other : ℕ) (fences : Acquire) : Type 0 where
  pub acquire : IsAcquireIn job p r form fences
  pub after : Before job other (first_of fences)

-- What is asked for comes after another packet: r itself, or fences that acquire for it.
abbrev pub EndsWith : Job → ℕ → ℕ → Form → Goal → ℕ → Ending → Type 0
EndsWith job p r form goal.Second other ending.Second = Before job other r
EndsWith job p r form goal.Second other (ending.Acquired fences) = ⊥
EndsWith job p r form goal.Acquire other ending.Second = ⊥
EndsWith job p r form goal.Acquire other (ending.Acquired fences) = FollowsWith job p r form other fences

-- These fences release p, and after that comes what is asked for.
pub record Answers (job : Job) (p r : ℕ) (form : Form) (goal : Goal) (fences : Release) (end : Ending) : Type 0 where
  pub release : IsReleaseIn job p r form fences
  pub ends : EndsWith job p r form goal (end_of fences) end

-- ---- the same between the packets of a search

-- y acquires for the second packet as far as is needed, after another
abbrev pub FenceAfter : Search → Scope → ℕ → ℕ → Type 0
FenceAfter s needed other y = AcquiresAfter s.before.now s.r needed other y

-- these fences acquire for it after another packet
abbrev pub Follows : Search → Form → ℕ → Acquire → Type 0
Follows s form other fences = FollowsWith s.before.now s.p s.r form other fences

-- what is asked for comes after another packet
abbrev pub Ends : Search → ℕ → Ending → Type 0
Ends s other end = EndsWith s.before.now s.p s.r s.form s.goal other end

-- these fences release the first packet, and after that comes what is asked for
abbrev pub Finds : Search → Form → Release → Ending → Type 0
Finds s form fences end = Answers s.before.now s.p s.r form s.goal fences end
