-- The parts of heads at their levels.
use Rattle.std.specs.Prelude.{◌≡◌, ◌≢◌, ℕ, ◌<◌, ◌≤◌, ◌⊎◌, IsTrue, List, length, Some, slice_get}
use Rattle.hq_packet.specs.declared.packet.Head.{Head}
use Rattle.hq_packet.specs.declared.packet.Scope.TheVariants as scope
use Rattle.hq_model.specs.Settings.{HeadRaises, Part, lowered}
use Rattle.hq_model.specs.Settings.Part.{Bit, AcquireScope, ReleaseScope}
use Rattle.hq_change.specs.declared.level.Level.{Level}
use Rattle.hq_change.specs.declared.level.Level.TheVariants as level

-- the part that a level is of
abbrev pub part_of : Level → Part
part_of level.ReleaseSystem = ReleaseScope
part_of level.AcquireSystem = AcquireScope
part_of level.ReleaseAgent = ReleaseScope
part_of level.AcquireAgent = AcquireScope
part_of level.Bit = Bit

-- how many levels go first: those that are dearer
abbrev pub ahead_of : Level → ℕ
ahead_of level.ReleaseSystem = 0
ahead_of level.AcquireSystem = 1
ahead_of level.ReleaseAgent = 2
ahead_of level.AcquireAgent = 3
ahead_of level.Bit = 4

-- The head's part stands at the level.
abbrev pub IsAt : Level → Head → Type 0
IsAt level.ReleaseSystem head = head.release ≡ scope.System
IsAt level.AcquireSystem head = head.acquire ≡ scope.System
IsAt level.ReleaseAgent head = head.release ≡ scope.Agent
IsAt level.AcquireAgent head = head.acquire ≡ scope.Agent
IsAt level.Bit head = IsTrue head.barrier

-- The new head is the old one with the level's part one level lower, and at or above the floor.
pub record IsLowered (level : Level) (floor old new : Head) : Type 0 where
  pub at : IsAt level old
  pub is : new ≡ lowered (part_of level) old
  pub above : HeadRaises floor new

-- Where the head's part stands at the level, it can't be lowered without being below the floor.
abbrev pub Stays : Level → Head → Head → Type 0
Stays level floor head = IsAt level head → ¬ HeadRaises floor (lowered (part_of level) head)

-- The new head is the old one lowered, or is the old one, which can't be lowered.
abbrev pub HeadLowered : Level → Head → Head → Head → Type 0
HeadLowered level floor old new = IsLowered level floor old new ⊎ (Stays level floor old × (new ≡ old))

-- So are the heads from one number up to another; the others are as they were.
pub record AreLowered (level : Level) (floor : List Head) (from to : ℕ) (old new : List Head) : Type 0 where
  pub len : length new ≡ length old
  pub inside : (p : ℕ) (low head : Head) → from ≤ p → p < to → slice_get floor p ≡ Some low
      → slice_get old p ≡ Some head → (other : Head) × (slice_get new p ≡ Some other) × HeadLowered level low head other
  pub others : (p : ℕ) → (p < from) ⊎ (to ≤ p) → slice_get new p ≡ slice_get old p

-- One of these heads is other than it was: one was lowered.
abbrev pub SomeOther : List Head → List Head → Type 0
SomeOther old new = (p : ℕ) × (slice_get new p ≢ slice_get old p)
