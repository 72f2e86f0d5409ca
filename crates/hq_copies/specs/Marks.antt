-- The bytes of one mark, as the code holds them.
use Rattle.std.specs.Prelude.{◌≡◌, ℕ, ◌+◌, ◌<◌, ◌≤◌, Option, None, IsSome, vec_len, vec_capacity}
use Rattle.hq_copies.specs.declared.runs.Runs.{Runs}
use Rattle.hq_copies.specs.Edges.{has, byte_at, IsRuns}

-- the byte that a number has, if it has one
abbrev pub byte_of : Runs → ℕ → Option ℕ
byte_of runs n = byte_at (has runs.edges.items) runs.bytes.items n

-- The edges rise, the last run ends, and there is a byte for each number.
abbrev pub AreRuns : Runs → Type 0
AreRuns runs = IsRuns runs.edges.items runs.bytes.items

-- room for a run more
abbrev pub HasRunRoom : Runs → Type 0
HasRunRoom runs = vec_len runs.edges + 2 ≤ vec_capacity runs.edges

-- room for a run more and a byte more
abbrev pub HasRoom : Runs → Type 0
HasRoom runs = HasRunRoom runs × (vec_len runs.bytes + 1 ≤ vec_capacity runs.bytes)

-- Edges and bytes are as they were.
abbrev pub SameRuns : Runs → Runs → Type 0
SameRuns old new = (new.edges.items ≡ old.edges.items) × (new.bytes.items ≡ old.bytes.items)

-- No number has a byte.
abbrev pub IsNowhere : Runs → Type 0
IsNowhere runs = (n : ℕ) → byte_of runs n ≡ None

-- n has a byte, and no number below it
pub record IsFirst (bytes : ℕ → Option ℕ) (n : ℕ) : Type 0 where
  pub some : IsSome (bytes n)
  pub none : (m : ℕ) → m < n → bytes m ≡ None
