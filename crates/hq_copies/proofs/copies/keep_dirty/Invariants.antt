use Rattle.std.proofs.Common.{◌≡◌, ◌-◌, ◌≤◌, length}
use Rattle.hq_copies.specs.Copies.{dirty_within}
use Rattle.hq_copies.specs.Known.{AreKnown}
use Rattle.hq_copies.proofs.copies.keep_dirty.Given as goal

-- the lanes ahead of this one have let go
abbrev pub invariant-lanes : goal.invariant-lanes
invariant-lanes l = record {
  from : l.start ≤ l.lane;
  upto : l.lane ≤ l.end;
  count : length l.lanes ≡ length l.fn.lanes;
  kept : l.lanes ≡ dirty_within l.start l.lane l.fn.lanes;
  known : AreKnown l.lanes l.holding.bits.items l.marked.bits.items;
}

abbrev pub decreases-lanes : goal.decreases-lanes
decreases-lanes l = l.end - l.lane
