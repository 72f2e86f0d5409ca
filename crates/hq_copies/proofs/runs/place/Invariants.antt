use Rattle.std.proofs.Common.{ℕ, ◌<◌, ◌≤◌, ◌-◌, length, get_or}
use Rattle.hq_copies.proofs.runs.place.Given as goal

abbrev pub invariant-search : goal.invariant-search
invariant-search l = record {
  order : l.low ≤ l.high;
  within : l.high ≤ length l.edges;
  below : (k : ℕ) → k < l.low → get_or l.edges k 0 < l.number;
  above : (k : ℕ) → l.high ≤ k → k < length l.edges → l.number ≤ get_or l.edges k 0;
}

abbrev pub decreases-search : goal.decreases-search
decreases-search l = l.high - l.low
