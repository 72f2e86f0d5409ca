use Rattle.std.proofs.Common.{◌≡◌, ℕ, ◌<◌, ◌≤◌, ◌-◌, false}
use Rattle.hq_model.specs.Machine.{is_dirty}
use Rattle.hq_model.specs.View.{copies_of}
use Rattle.hq_copies.proofs.copies.have_no_dirty.Given as goal

-- the lanes ahead of this one have no dirty byte
abbrev pub invariant-lanes : goal.invariant-lanes
invariant-lanes l = record {
  from : l.start ≤ l.lane;
  upto : l.lane ≤ l.end;
  none : (k b : ℕ) → l.start ≤ k → k < l.lane → is_dirty (copies_of l.lanes k b) ≡ false;
}

abbrev pub decreases-lanes : goal.decreases-lanes
decreases-lanes l = l.end - l.lane
