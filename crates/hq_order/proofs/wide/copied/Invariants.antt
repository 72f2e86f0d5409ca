use Rattle.std.proofs.Common.{◌≡◌, length}
use Rattle.hq_order.specs.Wide.{Each, IsCopy}
use Rattle.hq_order.proofs.wide.copied.Given as goal

abbrev pub invariant-loop-row : goal.invariant-loop-row
invariant-loop-row l = record {
  copies : Each (IsCopy l.rows) 0 l.copies.items;
  len : length l.copies.items ≡ l.row-index;
}
