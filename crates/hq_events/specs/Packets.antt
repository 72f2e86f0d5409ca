-- What is said of a packet of a job, and of a list with an item for each packet.
use Rattle.std.specs.Prelude.{◌≡◌, ℕ, ◌<◌, List, length, slice_index, slice_index_or}
use Rattle.hq_model.specs.Job.{Job, packet}
use Rattle.hq_model.specs.Machine.{IsByte}

-- p reads byte b as this entry
pub record IsEntry (job : Job) (p i b : ℕ) : Type 0 where
  pub few : i < length (packet job p).reads
  pub byte : b ≡ slice_index (packet job p).reads i
  pub within : IsByte job b

-- the statement holds of each of the list, by its place there
pub record AllAre {X : Type 0} (P : ℕ → X → Type 0) (xs : List X) : Type 0 where
  pub at : (i : ℕ) (none : X) → i < length xs → P i (slice_index_or xs i none)
