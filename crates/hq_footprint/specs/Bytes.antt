-- The bytes of ranges, and which ranges have what in common.
use Rattle.std.specs.Prelude.{ℕ, ◌+◌, ◌^◌, ◌<◌, ◌≤◌, List, [], ◌∷◌, ◌++◌, Contains, Any}
use Rattle.std.specs.List.{flat_map, range_with_len}
use Rattle.hq_footprint.specs.declared.footprint.Range.{Range}
use Rattle.hq_footprint.specs.declared.footprint.Footprint.{Footprint}

-- the addresses of a range's bytes, rising
abbrev pub bytes_of : Range → List ℕ
bytes_of r = range_with_len r.at r.len

-- what a footprint reads, entry by entry: its read ranges laid end to end
abbrev pub read_entries : Footprint → List ℕ
read_entries foot = flat_map bytes_of foot.reads

-- the bytes that it writes
abbrev pub written_bytes : Footprint → List ℕ
written_bytes foot = bytes_of foot.write

-- Some byte stands in both lists.
abbrev pub Share : List ℕ → List ℕ → Type 0
Share xs ys = (b : ℕ) × Contains xs b × Contains ys b

-- all ranges of a footprint
abbrev pub ranges_of : Footprint → List Range
ranges_of foot = foot.reads ++ foot.write ∷ []

-- The range passes the last address, 2^64 - 1.
abbrev pub Passes : Range → Type 0
Passes r = 2 ^ 64 < r.at + r.len

-- It ends at the last address or before it.
abbrev pub Fits : Range → Type 0
Fits r = r.at + r.len ≤ 2 ^ 64

-- The range begins and ends within the other.
pub record IsWithin (r outer : Range) : Type 0 where
  pub begins : outer.at ≤ r.at
  pub ends : r.at + r.len ≤ outer.at + outer.len

-- The range has no byte, or lies within one of these.
pub record IsInside (buffers : List Range) (r : Range) : Type 0 where
  pub within : 0 < r.len → Any (IsWithin r) buffers

-- The range has a byte, and lies within none of these.
pub record IsOutside (buffers : List Range) (r : Range) : Type 0 where
  pub some_byte : 0 < r.len
  pub in_none : ¬ Any (IsWithin r) buffers
