use Rattle.std.proofs.Common.{◌≡◌, None, length, map, replicate}
use Rattle.once_cell.specs.Once.{cell_name}
use Rattle.hq_ledger.specs.Cells.{known_of}
use Rattle.hq_ledger.proofs.tray.Tray.open.Given as goal

abbrev pub invariant-loop : goal.invariant-loop
invariant-loop l = record {
  count : length l.notes.items ≡ l.counter;
  names : map (λ note. note.cell) l.notes.items ≡ map cell_name l.cells.items;
  known : known_of l.notes.items ≡ replicate l.counter None;
}
