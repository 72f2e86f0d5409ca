use Rattle.std.proofs.Common.{◌≡◌, ℕ, ◌-◌, ◌≤◌, ◌<◌, length, slice_index_or}
use Rattle.hq_job.specs.Plan.{plan}
use Rattle.hq_runner.specs.Journals.{events_of}
use Rattle.hq_runner.proofs.finish.wrong_receipt.Given as goal

abbrev pub invariant-loop-q : goal.invariant-loop-q
invariant-loop-q g l = record {
  room : l.q ≤ length l.all;
  each : (k : ℕ) (ended : _) → k < l.q → ended ≡ slice_index_or l.all k ended → events_of (plan l.job) k l.journal ≡ ended.events.items;
}

abbrev pub decreases-loop-q : goal.decreases-loop-q
decreases-loop-q g l = length l.all - l.q
