-- What holds of each of a list.
use Rattle.std.specs.Prelude.{ℕ, ◌<◌, List, length, slice_index_or}

-- the statement holds of each of the list, by its place there
pub record AllAre {X : Type 0} (P : ℕ → X → Type 0) (xs : List X) : Type 0 where
  pub at : (i : ℕ) (none : X) → i < length xs → P i (slice_index_or xs i none)
