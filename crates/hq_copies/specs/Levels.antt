-- What one agent or one lane holds, as the code holds it: lower bytes and upper ones.
use Rattle.std.specs.Prelude.{ℕ, List}
use Rattle.hq_model.specs.View.{Held}
use Rattle.hq_copies.specs.declared.level.Level.TheInside.{Inside}
use Rattle.hq_copies.specs.Edges.{IsRuns, level}

-- Each list is one of runs.
pub record IsLevel (lower lower_bytes upper upper_bytes : List ℕ) : Type 0 where
  pub lower_runs : IsRuns lower lower_bytes
  pub upper_runs : IsRuns upper upper_bytes

-- what these fields hold: the upper bytes with their mark, over the lower ones, which are clean
abbrev pub level_of : Inside → Held
level_of l = level l.lower.edges.items l.lower.bytes.items l.upper.edges.items l.upper.bytes.items l.dirty

-- The lower bytes of these fields stand in runs, and so do the upper ones.
abbrev pub IsLevelOf : Inside → Type 0
IsLevelOf l = IsLevel l.lower.edges.items l.lower.bytes.items l.upper.edges.items l.upper.bytes.items
