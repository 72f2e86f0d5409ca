-- What a tray's notes know of its cells.
use Rattle.std.specs.Prelude.{◌≡◌, ℕ, ◌*◌, List, length, map, Option}
use Rattle.std.specs.Option.{option_map}
use Rattle.std.specs.declared.alloc.Global.{Global}
use Rattle.once_cell.specs.Once.{cell_name}
use Rattle.once_cell.specs.declared.race.note.Note.{Note}
use Rattle.hq_ledger.specs.declared.tray.Held.{Held}
use Rattle.hq_ledger.specs.Trays.{Left}

-- what a piece holds
abbrev pub left_of : Held → Left
left_of held = record { at = held.at; bytes = held.bytes.items }

-- what the notes know, one by one
abbrev pub known_of : List (Note Held) → List (Option Left)
known_of notes = map (λ note. option_map left_of note.known) notes

-- There are three cells for each packet, and each has its note.
pub record AreNotes (packets : ℕ) (cells : List (Global × ℕ)) (notes : List (Note Held)) : Type 0 where
  pub count : length notes ≡ 3 * packets
  pub names : map (λ note. note.cell) notes ≡ map cell_name cells
