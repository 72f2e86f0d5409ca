-- The runs from some run on, as the code goes over them.
use Rattle.std.specs.Prelude.{◌≡◌, ℕ, ◌+◌, ◌<◌, ◌^◌, Option, None, length}
use Rattle.hq_copies.specs.declared.runs.Run.{Run}
use Rattle.hq_copies.specs.declared.runs.RunsLeft.{RunsLeft}
use Rattle.hq_copies.specs.Edges.{has, byte_at, IsRuns}
use Rattle.hq_copies.specs.Overlays.{run_at, Over}

-- the byte that a number has in the runs that are left, if it has one
abbrev pub left_of : RunsLeft → ℕ → Option ℕ
left_of left n = byte_at (has left.edges.now) left.bytes.now n

-- Of the runs that are left the edges rise, the last run ends, and there is a byte for each number.
abbrev pub AreLeft : RunsLeft → Type 0
AreLeft left = IsRuns left.edges.now left.bytes.now

-- the first run of those that are left: those behind it have none of its numbers
pub record IsFirstRun (left : RunsLeft) (run : Run) : Type 0 where
  pub behind : AreLeft run.behind
  pub over : Over (run_at run.start run.bytes.now) (left_of run.behind) (left_of left)
  pub apart : (n : ℕ) → n < run.start + length run.bytes.now → left_of run.behind n ≡ None
  pub fits : run.start + length run.bytes.now < 2 ^ 32
  pub shorter : length run.behind.edges.now < length left.edges.now
