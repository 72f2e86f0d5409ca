use Rattle.std.proofs.Common.{◌-◌, ◌≤◌, length}
use Rattle.hq_copies.specs.Known.{HasDirty, HasRoom}
use Rattle.hq_copies.proofs.Known.{Cleaned}
use Rattle.hq_copies.proofs.copies.mark_clean.Given as goal

-- the lanes ahead of this one are clean
abbrev pub invariant-lanes : goal.invariant-lanes
invariant-lanes l = record {
  from : l.start ≤ l.lane;
  upto : l.lane ≤ l.end;
  cleaned : Cleaned l.fn.lanes l.start l.lane l.lanes;
  room : HasRoom (length l.lanes) l.marked.bits.items;
  marked : HasDirty l.lanes l.marked.bits.items;
}

abbrev pub decreases-lanes : goal.decreases-lanes
decreases-lanes l = l.end - l.lane
