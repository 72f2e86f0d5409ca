use Rattle.std.proofs.Common.{◌≡◌, length}
use Rattle.hq_job.specs.Plan.{plan}
use Rattle.hq_rows.specs.Lists.{AllAre}
use Rattle.hq_waits.specs.Waits.{Completing}
use Rattle.hq_waits.proofs.signals.completing.Given as goal

abbrev pub invariant-loop-signal : goal.invariant-loop-signal
invariant-loop-signal l = record {
  rows : AllAre (λ s row. Completing (plan l.job) s row.items × (length row.items ≡ l.words)) l.rows.items;
  count : length l.rows.items ≡ l.signal;
}
