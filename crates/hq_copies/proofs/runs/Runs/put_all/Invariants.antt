use Rattle.std.proofs.Common.{◌≡◌, ℕ, length}
use Rattle.hq_copies.specs.Marks.{byte_of, AreRuns}
use Rattle.hq_copies.specs.Overlays.{or_lower}
use Rattle.hq_copies.specs.Leftovers.{AreLeft, left_of}
use Rattle.hq_copies.proofs.runs.Runs.put_all.Given as goal

abbrev pub invariant-runs : goal.invariant-runs
invariant-runs l = record {
  runs : AreRuns l.self;
  left : AreLeft l.left;
  over : (n : ℕ) → or_lower (left_of l.left n) (byte_of l.self n) ≡ or_lower (byte_of l.other n) (byte_of l.fn.self n);
}

abbrev pub decreases-runs : goal.decreases-runs
decreases-runs l = length l.left.edges.now
