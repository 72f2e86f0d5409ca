-- Which footprints conflict, and how.
use Rattle.std.specs.Prelude.{◌+◌, ◌<◌, ◌↔◌, ◌⊎◌, IsTrue}
use Rattle.hq_footprint.specs.declared.footprint.Range.{Range}
use Rattle.hq_footprint.specs.declared.footprint.Footprint.{Footprint}
use Rattle.hq_footprint.specs.declared.conflicts.Kinds.{Kinds}
use Rattle.hq_footprint.specs.Bytes.{read_entries, written_bytes, Share}

-- One footprint writes a byte that the other reads or writes.
abbrev pub Conflict : Footprint → Footprint → Type 0
Conflict first second = Share (written_bytes first) (read_entries second)
    ⊎ (Share (written_bytes first) (written_bytes second) ⊎ Share (read_entries first) (written_bytes second))

-- Each flag tells whether the footprints, in this order, share a byte that way: write then read, write then write,
-- read then write.
pub record HasKinds (first second : Footprint) (kinds : Kinds) : Type 0 where
  pub wr : IsTrue kinds.wr ↔ Share (written_bytes first) (read_entries second)
  pub ww : IsTrue kinds.ww ↔ Share (written_bytes first) (written_bytes second)
  pub rw : IsTrue kinds.rw ↔ Share (read_entries first) (written_bytes second)

-- the same flags with the second footprint first
abbrev pub turned : Kinds → Kinds
turned kinds = record { wr = kinds.rw; ww = kinds.ww; rw = kinds.wr }

-- Both ranges have bytes, and each begins before the other ends.
pub record Overlap (r s : Range) : Type 0 where
  pub some_byte : 0 < r.len
  pub other_byte : 0 < s.len
  pub before : r.at < s.at + s.len
  pub after : s.at < r.at + r.len
