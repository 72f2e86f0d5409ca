use Rattle.std.proofs.Common.{ℕ, ◌<◌, ◌≢◌, slice_index}
use Rattle.hq_schedule.proofs.slots.turn.Given as goal

abbrev pub invariant-loop-turn : goal.invariant-loop-turn
invariant-loop-turn l = (i : ℕ) → i < l.turn → slice_index l.job.submissions i ≢ l.number
