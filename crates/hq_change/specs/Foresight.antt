-- What is foreseen of a job's bits by its order and its conflicts alone.
use Rattle.std.specs.Prelude.{◌≡◌, ◌≢◌, ℕ, ◌<◌, List, length}
use Rattle.std.specs.Global.{Vec}
use Rattle.hq_packet.specs.declared.packet.Head.{Head}
use Rattle.hq_model.specs.Job.{Job, IsPacket}
use Rattle.hq_model.specs.Fence.{Ordered}
use Rattle.hq_fence.specs.Judgement.{HaveConflict}
use Rattle.hq_model.specs.Settings.{Raises, head_at}
use Rattle.hq_model.specs.Settings.Part.{Bit}
use Rattle.hq_rows.specs.Matrix.{Marks, IsSquare}
use Rattle.hq_change.specs.declared.level.Level.TheVariants as level
use Rattle.hq_change.specs.Levels.{IsAt}
use Rattle.hq_change.specs.Minimal.{AtOrAbove, Settled, SettledFrom}

-- For each packet a row, which has packets with lesser numbers that conflict with it.
pub record AreConflicts (job : Job) (rows : List (Vec ℕ)) : Type 0 where
  pub square : IsSquare (length job.packets) rows
  pub conflict : (b a : ℕ) → Marks rows b a → (b < a) × HaveConflict job b a

-- and each such packet
pub record HaveConflicts (job : Job) (rows : List (Vec ℕ)) : Type 0 where
  pub all : (b a : ℕ) → b < a → IsPacket job a → HaveConflict job b a → Marks rows b a

-- The setting is at or below the one before, and at or above the floor. It differs in no other packet's head than
-- p's; and where p has its bit still, that can't go.
pub record Foreseen (floor : List Head) (p : ℕ) (old new : Job) : Type 0 where
  pub below : Raises new old
  pub above : AtOrAbove floor new
  pub others : (q : ℕ) → q ≢ p → head_at new q ≡ head_at old q
  pub settled : IsAt level.Bit (head_at new p) → Settled floor new p Bit

-- So it is of all packets from one number on, one behind another.
pub record AllForeseen (floor : List Head) (from : ℕ) (old new : Job) : Type 0 where
  pub below : Raises new old
  pub above : AtOrAbove floor new
  pub settled : SettledFrom level.Bit floor new from

-- The job is ordered, at or below the one before, at or above the floor, and no bit of it can go.
pub record BitsSettled (floor : List Head) (old new : Job) : Type 0 where
  pub ordered : Ordered new
  pub all : AllForeseen floor 0 old new
