use Rattle.std.proofs.Common.{◌≡◌, length, slice_index}
use Rattle.hq_job.specs.Plan.{plan}
use Rattle.hq_model.specs.Job.{Frees}
use Rattle.hq_rows.specs.Lists.{AllAre}
use Rattle.hq_schedule.specs.Placing.{Freeing}
use Rattle.hq_rows.proofs.Filling.{Gathered}
use Rattle.hq_schedule.proofs.freeing.push_freeing.Given as goal

abbrev pub invariant-loop-number : goal.invariant-loop-number
invariant-loop-number l = record {
  rows : AllAre (λ k set. Freeing (plan l.job) k set.items × (length set.items ≡ length l.fn.row)) l.rows.items;
  count : length l.rows.items ≡ l.number-index;
  row : Gathered (λ k e. Frees (plan l.job) e (slice_index l.job.submissions k)) l.fn.row l.number-index l.row;
}
