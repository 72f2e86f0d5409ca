-- Settings from which nothing can be lowered.
use Rattle.std.specs.Prelude.{◌≡◌, ◌≢◌, ℕ, ◌+◌, ◌<◌, ◌≤◌, ◌⊎◌, Bool, IsTrue, List, length, Some, slice_get}
use Rattle.hq_packet.specs.declared.packet.Head.{Head}
use Rattle.hq_model.specs.Job.{Job, IsPacket}
use Rattle.hq_model.specs.Fence.{Ordered}
use Rattle.hq_model.specs.Settings.{HeadRaises, Raises, Part, IsRaised, head_at, lowered, with_head}
use Rattle.hq_order.specs.declared.before.Rounds.{Rounds}
use Rattle.hq_order.specs.View.{AreOf}
use Rattle.hq_change.specs.declared.level.Level.{Level}
use Rattle.hq_change.specs.declared.level.Level.TheVariants as levels
use Rattle.hq_change.specs.Levels.{AreLowered, IsAt, part_of}
use Rattle.hq_change.specs.Between.{SetBetween}

-- ---- what is answered

-- k is at or below the job, ordered, and in no other setting below k is the job ordered.
pub record IsTrimmed (job k : Job) : Type 0 where
  pub below : Raises k job
  pub ordered : Ordered k
  pub least : (m : Job) → Raises m k → Ordered m → m ≡ k

-- k is at or above the job, ordered, and in no other setting between the two is the job ordered.
pub record IsFixed (job k : Job) : Type 0 where
  pub above : Raises job k
  pub ordered : Ordered k
  pub least : (m : Job) → Raises job m → Raises m k → Ordered m → m ≡ k

-- ---- above a floor: heads, one for each packet, below which none goes

-- Each packet's head is at or above the one that the floor has for it.
abbrev pub AtOrAbove : List Head → Job → Type 0
AtOrAbove floor k = (p : ℕ) (low : Head) → slice_get floor p ≡ Some low → HeadRaises low (head_at k p)

-- k is ordered, and of the settings below it none that is above the floor is.
pub record IsMinimal (floor : List Head) (k : Job) : Type 0 where
  pub above : AtOrAbove floor k
  pub ordered : Ordered k
  pub least : (m : Job) → AtOrAbove floor m → Raises m k → Ordered m → m ≡ k

-- This part of packet p's head isn't at its lowest, and can be one level lower without being below the floor.
pub record CanLower (floor : List Head) (k : Job) (p : ℕ) (part : Part) : Type 0 where
  pub low : Head
  pub is_floor : slice_get floor p ≡ Some low
  pub raised : IsRaised part (head_at k p)
  pub above : HeadRaises low (lowered part (head_at k p))

-- Where that is so, the job isn't ordered any more with that part one level lower.
abbrev pub Settled : List Head → Job → ℕ → Part → Type 0
Settled floor k p part = CanLower floor k p part → ¬ Ordered (with_head k p (lowered part (head_at k p)))

-- so it is for all packets from one number on whose part stands at the level
abbrev pub SettledFrom : Level → List Head → Job → ℕ → Type 0
SettledFrom level floor k from = (p : ℕ) → from ≤ p → IsPacket k p → IsAt level (head_at k p)
    → Settled floor k p (part_of level)

-- ---- while heads are lowered

-- The job is ordered, has these heads, and is at or above the floor.
pub record IsOn (floor : List Head) (k : Job) (heads : List Head) : Type 0 where
  pub len : length heads ≡ length k.packets
  pub floored : length floor ≡ length k.packets
  pub has : (p : ℕ) → IsPacket k p → slice_get heads p ≡ Some (head_at k p)
  pub above : AtOrAbove floor k
  pub ordered : Ordered k

-- Where the level is of a fence, these are the rounds of the job.
abbrev pub Fit : Level → Job → Rounds → Type 0
Fit level job rounds = level ≢ levels.Bit → AreOf job rounds

-- After an attempt at the packets from one number up to another: the setting is at or below the one before, and
-- differs in these packets alone; where the attempt went, or was at one packet, they are settled.
pub record Attempted (level : Level) (floor : List Head) (from to : ℕ) (old new : Job) (heads : List Head)
    (rounds : Rounds) (went : Bool) : Type 0 where
  pub on : IsOn floor new heads
  pub below : Raises new old
  pub others : (p : ℕ) → (p < from) ⊎ (to ≤ p) → head_at new p ≡ head_at old p
  pub fit : Fit level new rounds
  pub settled : IsTrue went ⊎ (to ≡ from + 1) → (p : ℕ) → from ≤ p → p < to → IsAt level (head_at new p)
      → Settled floor new p (part_of level)

-- The setting with the heads from one number up to another lowered isn't ordered.
pub record TooLow (level : Level) (floor : List Head) (from to : ℕ) (heads : List Head) (job : Job) : Type 0 where
  pub low : List Head
  pub setting : Job
  pub lowered : AreLowered level floor from to heads low
  pub set : SetBetween low from to job setting
  pub refused : ¬ Ordered setting

-- After all packets were settled at a level: the setting is at or below the one before.
pub record Settles (level : Level) (floor : List Head) (old new : Job) (heads : List Head)
    (rounds : Rounds) : Type 0 where
  pub on : IsOn floor new heads
  pub below : Raises new old
  pub fit : Fit level new rounds
  pub settled : SettledFrom level floor new 0
