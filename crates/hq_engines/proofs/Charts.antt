-- What `chart` writes.
use Rattle.std.proofs.Common.{◌⊎◌, ℕ, Bool, true, false, inl, inr, List, Option, take, codes}
use Rattle.hq_job.specs.Plan.{plan}
use Rattle.hq_job.specs.Value.{JobValue}
use Rattle.hq_events.specs.declared.event.Event.{Event}
use Rattle.hq_timeline.specs.Replays.{Replayed, StopsAt}
use Rattle.hq_chart.specs.Chart.{chart_text}
use Rattle.hq_engines.specs.Chart.{ChartReport}
use Rattle.hq_engines.specs.Chart.ChartReport.{drawn, stopped, no_memory}
use Rattle.hq_status.specs.Reports.{Reported, Said, with_feed}
use Rattle.hq_status.specs.declared.status.Status.{Status}
use Rattle.hq_status.specs.declared.status.Status.TheVariants.{Done, DrawnUntil, Memory}

pub drawn_reported : (job : JobValue) (copies : Bool) (events : List Event) (bytes : List ℕ) (old new : Option (List ℕ)) (answered : Status) → Replayed (plan job) events bytes
    → Said old new (chart_text job copies events false) Done answered ⊎ Said old new (with_feed (codes "out of memory")) Memory answered → Reported (ChartReport job copies events) old new answered
drawn_reported job copies events bytes old new answered run (inl said) = (chart_text job copies events false, Done, drawn bytes run, said)
drawn_reported job copies events bytes old new answered run (inr said) = (with_feed (codes "out of memory"), Memory, no_memory, said)

pub stopped_reported : (job : JobValue) (copies : Bool) (events : List Event) (place : ℕ) (old new : Option (List ℕ)) (answered : Status) → StopsAt (plan job) events place
    → Said old new (chart_text job copies (take place events) true) (DrawnUntil place) answered ⊎ Said old new (with_feed (codes "out of memory")) Memory answered → Reported (ChartReport job copies events) old new answered
stopped_reported job copies events place old new answered why (inl said) = (chart_text job copies (take place events) true, DrawnUntil place, stopped place why, said)
stopped_reported job copies events place old new answered why (inr said) = (with_feed (codes "out of memory"), Memory, no_memory, said)
