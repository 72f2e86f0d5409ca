-- What is drawn of a run is what packets do in it.
use Rattle.std.specs.Prelude.{◌≡◌, ℕ, false, List, Some, map, slice_get}
use Rattle.hq_job.specs.Plan.{plan}
use Rattle.hq_job.specs.Value.{JobValue}
use Rattle.hq_model.specs.Job.{packet}
use Rattle.hq_model.specs.Journal.{JournalRun}
use Rattle.hq_model.specs.Machine.{State, Phase, is_launched}
use Rattle.hq_model.specs.Machine.Phase.{Launched, Active, Complete}
use Rattle.hq_events.specs.Events.{coarse_of}
use Rattle.hq_events.specs.declared.event.Event.{Event}
use Rattle.hq_events.specs.declared.event.Event.TheVariants as event
use Rattle.hq_chart.specs.declared.rows.Row.{Row}
use Rattle.hq_chart.specs.declared.rows.Stage.{Stage}
use Rattle.hq_chart.specs.declared.rows.Stage.TheVariants as stage
use Rattle.hq_chart.specs.Rows.{rows_of, rows_after}

-- A packet in this phase does what is said of it.
abbrev pub IsPhase : Stage → Phase → Type 0
IsPhase stage.Ahead phase = is_launched phase ≡ false
IsPhase (stage.Waits since) phase = phase ≡ Launched
IsPhase (stage.Active since) phase = phase ≡ Active
IsPhase stage.Done phase = phase ≡ Complete

-- It does so since an event that launched a packet of its queue, or since the one by which it became active.
abbrev pub IsSince : List Event → ℕ → ℕ → Stage → Type 0
IsSince events queue p stage.Ahead = Unit {0}
IsSince events queue p (stage.Waits since) = slice_get events since ≡ Some (event.Launch queue)
IsSince events queue p (stage.Active since) = slice_get events since ≡ Some (event.Enter p)
IsSince events queue p stage.Done = Unit {0}

-- The row says what packet p does in the state that the events lead to, and since which of them.
pub record TellsOf (job : JobValue) (events : List Event) (state : State) (p : ℕ) (row : Row) : Type 0 where
  pub queue : row.queue ≡ (packet (plan job) p).queue
  pub phase : IsPhase row.stage (state.phase p)
  pub since : IsSince events row.queue p row.stage

-- ---- the law

-- Behind the events of a run each packet's row tells of it.
abbrev pub RowsTellOfRuns : Type 0
RowsTellOfRuns = (job : JobValue) (events : List Event) (state : State)
    → JournalRun (plan job) (map coarse_of events) state
    → (p : ℕ) (row : Row) → slice_get (rows_after (rows_of job.packets) 0 events) p ≡ Some row
    → TellsOf job events state p row
