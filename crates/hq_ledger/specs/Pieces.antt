-- Pieces as contracts see them.
use Rattle.std.specs.Prelude.{ℕ, List, ◌++◌, take, drop, length}

-- The bytes of one range of a packet: which packet, which place among its ranges, the first address, and the bytes.
pub record Part : Type 0 where
  pub packet : ℕ
  pub place : ℕ
  pub at : ℕ
  pub bytes : List ℕ

-- the part with these bytes in the place of its own
abbrev pub with_bytes : Part → List ℕ → Part
with_bytes part bytes = record part { bytes = bytes }

-- the bytes with others written over their front
abbrev pub over : List ℕ → List ℕ → List ℕ
over old new = take (length old) (new ++ drop (length new) old)
