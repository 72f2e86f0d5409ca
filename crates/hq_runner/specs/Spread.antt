-- Calls of one function with each of a list of jobs and its place.
use Rattle.std.specs.Prelude.{◌≡◌, ℕ, ◌<◌, List, length, slice_index_or}

-- The function may be called with each job and its place.
pub record Accepts {J : Type 0} (pre : ℕ → J → Type 0) (jobs : List J) : Type 0 where
  pub each : (i : ℕ) (job : J) → i < length jobs → job ≡ slice_index_or jobs i job → pre i job

-- These are results of such calls, one for each job, in the same order.
pub record Gives {J X : Type 0} (post : ℕ → J → X → Type 0) (jobs : List J) (xs : List X) : Type 0 where
  pub count : length xs ≡ length jobs
  pub each : (i : ℕ) (job : J) (x : X) → i < length jobs → job ≡ slice_index_or jobs i job → x ≡ slice_index_or xs i x
      → post i job x
