use Rattle.std.proofs.Common.{◌≡◌, ◌<◌, ◌+◌, ℕ, slice_index, slice_index_or, Some, None}
use Rattle.hq_events.proofs.rows.Reads.has.Given as goal

abbrev pub invariant-loop-place : goal.invariant-loop-place
invariant-loop-place l = (i : ℕ) → i < l.place → slice_index_or l.self (l.first + i) None ≡ Some (slice_index l.bytes i)
