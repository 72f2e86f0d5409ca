-- What `chart` writes.
use Rattle.std.specs.Prelude.{ℕ, Bool, true, false, List, take, codes}
use Rattle.hq_job.specs.Plan.{plan}
use Rattle.hq_job.specs.Value.{JobValue}
use Rattle.hq_events.specs.declared.event.Event.{Event}
use Rattle.hq_timeline.specs.Replays.{Replayed, StopsAt}
use Rattle.hq_chart.specs.Chart.{chart_text}
use Rattle.hq_status.specs.Reports.{with_feed}
use Rattle.hq_status.specs.declared.status.Status.{Status}
use Rattle.hq_status.specs.declared.status.Status.TheVariants.{Done, DrawnUntil, Memory}

-- What is written of a job and events: their picture, with what happens to copies where that is asked for; or that
-- of the events before the first one that isn't enabled, which says so.
pub data ChartReport (job : JobValue) (copies : Bool) (events : List Event) : List ℕ → Status → Type 0 where
  drawn : (bytes : List ℕ) → Replayed (plan job) events bytes
      → ChartReport job copies events (chart_text job copies events false) Done
  stopped : (place : ℕ) → StopsAt (plan job) events place
      → ChartReport job copies events (chart_text job copies (take place events) true) (DrawnUntil place)
  no_memory : ChartReport job copies events (with_feed (codes "out of memory")) Memory
