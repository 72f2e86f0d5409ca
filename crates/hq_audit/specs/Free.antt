-- Packets that don't conflict.
use Rattle.std.specs.Prelude.{ℕ, ◌<◌}
use Rattle.hq_model.specs.Job.{Job, IsPacket}
use Rattle.hq_parts.specs.Parts.{NeverConflict}

-- a conflicts with none of the packets above it, up to b
abbrev pub RowFree : Job → ℕ → ℕ → Type 0
RowFree job a b = (s : ℕ) → a < s → s < b → NeverConflict job a s

-- nor does any packet below a with those above it
abbrev pub RowsFree : Job → ℕ → Type 0
RowsFree job a = (q s : ℕ) → q < a → q < s → IsPacket job s → NeverConflict job q s

-- No two packets conflict.
abbrev pub NoneConflict : Job → Type 0
NoneConflict job = (q s : ℕ) → q < s → IsPacket job s → NeverConflict job q s
