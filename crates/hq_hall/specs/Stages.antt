-- Where packets stand between their fetch and their delivery.
use Rattle.std.specs.Prelude.{ℕ, ◌==◌, Bool, false, List, if◌then◌else◌}
use Rattle.std.specs.List.{list_any}
use Rattle.hq_events.specs.declared.event.Event.{Event}
use Rattle.hq_events.specs.declared.event.Event.TheVariants as event
use Rattle.hq_hall.specs.declared.stage.Stage.{Stage}
use Rattle.hq_hall.specs.declared.stage.Stage.TheVariants as stage

-- whether the event is p's fetch, or its delivery
abbrev pub fetches : ℕ → Event → Bool
fetches p (event.Fetch q) = q == p
fetches p other = false

-- whether the event is p's delivery
abbrev pub delivers : ℕ → Event → Bool
delivers p (event.Deliver q) = q == p
delivers p other = false

-- where p stands after these events
abbrev pub stage_of : List Event → ℕ → Stage
stage_of events p = if list_any (delivers p) events then stage.Delivered else
    (if list_any (fetches p) events then stage.Out else stage.Unfetched)
