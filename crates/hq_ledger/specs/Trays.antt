-- What has come home.
use Rattle.std.specs.Prelude.{◌≡◌, ℕ, ◌<◌, ◌+◌, ◌/◌, ◌%◌, ◌⊎◌, List, [], ◌∷◌, length, slice_get, Option, Some, None}
use Rattle.hq_ledger.specs.Pieces.{Part}
use Rattle.hq_ledger.specs.declared.tray.Home.{Home}

-- What a dropped piece leaves in its cell: where its range begins, and the bytes.
pub record Left : Type 0 where
  pub at : ℕ
  pub bytes : List ℕ

-- A tray: for how many packets it has cells, three for each, and what is known of each cell, by packet and place. A
-- cell that is known to hold something holds that for good; of another nothing is known.
pub record TrayValue : Type 0 where
  pub packets : ℕ
  pub known : List (Option Left)

-- What was known stays known.
pub record Learned (old new : List (Option Left)) : Type 0 where
  pub cells : length new ≡ length old
  pub kept : (number : ℕ) (left : Left) → slice_get old number ≡ Some (Some left)
      → slice_get new number ≡ Some (Some left)

-- what came home to the cell of this number, as part of its packet
abbrev pub homed : ℕ → Left → Part
homed number left = record { packet = number / 3; place = number % 3; at = left.at; bytes = left.bytes }

-- what came home to the cells from this number on, one by one
abbrev pub homes_from : ℕ → List (Option Left) → List Part
homes_from number [] = []
homes_from number (None ∷ cells) = homes_from (1 + number) cells
homes_from number (Some left ∷ cells) = homed number left ∷ homes_from (1 + number) cells

-- The part stands ahead of the other: of an earlier packet, or in an earlier place of the same.
abbrev pub IsAhead : Part → Part → Type 0
IsAhead a b = (a.packet < b.packet) ⊎ ((a.packet ≡ b.packet) × (a.place < b.place))

-- a home as part of its packet
abbrev pub part_of : Home → Part
part_of home = record { packet = home.packet; place = home.place; at = home.at; bytes = home.bytes.items }
