use Rattle.std.proofs.Common.{◌≡◌, ℕ, length}
use Rattle.std.specs.FinMap as finite
use Rattle.hq_copies.specs.Leftovers.{AreLeft, left_of}
use Rattle.hq_copies.specs.Overlays.{dirty_over}
use Rattle.hq_copies.proofs.level.Level.push_into.Given as goal

abbrev pub invariant-runs : goal.invariant-runs
invariant-runs l = record {
  left : AreLeft l.left;
  over : (n : ℕ) → dirty_over (left_of l.left n) (finite.get l.below n) ≡ dirty_over (left_of l.initial.left n) (finite.get l.initial.below n);
}

abbrev pub decreases-runs : goal.decreases-runs
decreases-runs l = length l.left.edges.now
