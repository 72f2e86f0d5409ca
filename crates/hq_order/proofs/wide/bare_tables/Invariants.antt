use Rattle.std.proofs.Common.{◌≡◌, length}
use Rattle.hq_order.specs.Wide.{AreBare}
use Rattle.hq_order.proofs.wide.bare_tables.Given as goal

abbrev pub invariant-loop-table : goal.invariant-loop-table
invariant-loop-table l = record {
  bare : AreBare l.tables.items;
  len : length l.tables.items ≡ l._table;
}
