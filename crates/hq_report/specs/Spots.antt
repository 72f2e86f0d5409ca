-- Where bytes of memory lie, as texts name them.
use Rattle.std.specs.Prelude.{ℕ, ◌+◌, ◌-◌, nat_lt, if◌then◌else◌, List, [], ◌∷◌, ◌++◌, length}
use Rattle.std.specs.Prelude.{Option, Some, None, codes}
use Rattle.std.specs.Fmt.{decimal}
use Rattle.hq_tables.specs.Blocks.{Bytes}
use Rattle.hq_report.specs.declared.spots.Spot.{Spot}

-- where the byte of a number lies, when the buffers are laid end to end
abbrev pub spot_of : List Bytes → ℕ → Option Spot
spot_of [] n = None
spot_of (b ∷ bs) n = if nat_lt n (length b.bytes) then Some
    (record { name = b.name; at = b.at; offset = n }) else spot_of bs (n - length b.bytes)

-- ---- the texts

-- so far from where a buffer begins
abbrev pub offset_text : Spot → List ℕ
offset_text spot = spot.name ++ codes "+" ++ decimal spot.offset

-- which buffer a byte lies in, how far from where that begins, and its address
abbrev pub spot_text : Spot → List ℕ
spot_text spot = offset_text spot ++ codes " (address " ++ decimal (spot.at + spot.offset) ++ codes ")"
