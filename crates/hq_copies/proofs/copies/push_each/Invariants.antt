use Rattle.std.proofs.Common.{◌≡◌, ◌-◌, ◌≤◌, ℕ}
use Rattle.std.specs.FinMap as finite
use Rattle.hq_copies.specs.Copies.{after_pushes}
use Rattle.hq_copies.proofs.copies.push_each.Given as goal

-- the lanes ahead of this one have written back
abbrev pub invariant-lanes : goal.invariant-lanes
invariant-lanes l = record {
  from : l.start ≤ l.lane;
  upto : l.lane ≤ l.end;
  pushed : (b : ℕ) → finite.get l.below b ≡ after_pushes l.lanes l.start (l.lane - l.start) b (finite.get l.fn.below b);
}

abbrev pub decreases-lanes : goal.decreases-lanes
decreases-lanes l = l.end - l.lane
