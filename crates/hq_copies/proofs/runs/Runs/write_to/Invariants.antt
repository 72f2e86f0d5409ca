use Rattle.std.proofs.Common.{◌≡◌, ◌+◌, ◌<◌, ℕ, length, get_or}
use Rattle.hq_copies.specs.Leftovers.{AreLeft, left_of}
use Rattle.hq_copies.specs.Overlays.{byte_over}
use Rattle.hq_copies.proofs.runs.Runs.write_to.Given as goal

abbrev pub invariant-runs : goal.invariant-runs
invariant-runs l = record {
  left : AreLeft l.left;
  over : (i : ℕ) → i < length l.initial.bytes → byte_over (left_of l.left (l.from + i)) (get_or l.bytes i 0) ≡ byte_over (left_of l.initial.left (l.from + i)) (get_or l.initial.bytes i 0);
}

abbrev pub decreases-runs : goal.decreases-runs
decreases-runs l = length l.left.edges.now
