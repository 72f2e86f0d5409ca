-- What packets do while events happen, and what is drawn of each event.
use Rattle.std.specs.Prelude.{ℕ, ◌+◌, Bool, true, false, ◌&&◌, ◌==◌, if◌then◌else◌, List, [], ◌∷◌, Option, Some}
use Rattle.std.specs.Prelude.{None, map, slice_get, slice_set}
use Rattle.std.specs.List.{position}
use Rattle.hq_tables.specs.declared.rows.Placed.{Placed}
use Rattle.hq_events.specs.declared.event.Event.{Event}
use Rattle.hq_events.specs.declared.event.Event.TheVariants as event
use Rattle.hq_chart.specs.declared.rows.Row.{Row}
use Rattle.hq_chart.specs.declared.rows.Stage.{Stage}
use Rattle.hq_chart.specs.declared.rows.Stage.TheVariants as stage
use Rattle.hq_chart.specs.declared.shape.Shape.{Shape}
use Rattle.hq_chart.specs.declared.shape.Shape.TheVariants as shape
use Rattle.hq_chart.specs.declared.shape.Phase.TheVariants as phase
use Rattle.hq_chart.specs.declared.shape.Mark.TheVariants as mark

-- ---- what packets do

-- before the first event no packet is launched
abbrev pub rows_of : List Placed → List Row
rows_of packets = map (λ p. record { queue = p.queue; stage = stage.Ahead }) packets

-- whether the packet isn't launched yet
abbrev pub awaits_launch : Stage → Bool
awaits_launch stage.Ahead = true
awaits_launch (stage.Waits since) = false
awaits_launch (stage.Active since) = false
awaits_launch stage.Done = false

-- a packet of this queue that isn't launched yet
abbrev pub is_ahead : ℕ → Row → Bool
is_ahead queue row = row.queue == queue && awaits_launch row.stage

-- the queue's next packet, if it has one
abbrev pub first_ahead : List Row → ℕ → Option ℕ
first_ahead rows queue = position (is_ahead queue) rows

-- the packet does this, if there is such a packet
abbrev pub with_stage_at : List Row → ℕ → Stage → Option Row → List Row
with_stage_at rows p does None = rows
with_stage_at rows p does (Some row) = slice_set rows p (record row { stage = does })

-- what packets do once packet p does this, if there is one of that number
abbrev pub with_stage : List Row → ℕ → Stage → List Row
with_stage rows p does = with_stage_at rows p does (slice_get rows p)

-- what packets do once this one, if there is one, is launched by the event of a place
abbrev pub launched : List Row → ℕ → Option ℕ → List Row
launched rows place None = rows
launched rows place (Some p) = with_stage rows p (stage.Waits place)

-- what packets do behind the event of a place
abbrev pub moved : List Row → ℕ → Event → List Row
moved rows place event.Submit = rows
moved rows place (event.Launch queue) = launched rows place (first_ahead rows queue)
moved rows place (event.Observe p slot) = rows
moved rows place (event.Enter p) = with_stage rows p (stage.Active place)
moved rows place (event.Fetch p) = rows
moved rows place (event.Deliver p) = rows
moved rows place (event.Complete p) = with_stage rows p stage.Done
moved rows place event.Rest = rows
moved rows place (event.Read p entry) = rows
moved rows place (event.Store p entry) = rows
moved rows place (event.Finish p) = with_stage rows p stage.Done
moved rows place (event.PushLane p byte) = rows
moved rows place (event.PushAgent agent byte) = rows
moved rows place (event.FillLane p byte) = rows
moved rows place (event.FillAgent agent byte) = rows
moved rows place (event.DropLane p byte) = rows
moved rows place (event.DropAgent agent byte) = rows

-- what they do behind events, the first of which has this place
abbrev pub rows_after : List Row → ℕ → List Event → List Row
rows_after rows place [] = rows
rows_after rows place (e ∷ es) = rows_after (moved rows place e) (place + 1) es

-- ---- what is drawn

-- a bar of what the packet does, up to an event
abbrev pub bar_of_stage : Stage → ℕ → ℕ → Option Shape
bar_of_stage stage.Ahead p to = None
bar_of_stage (stage.Waits since) p to = Some (shape.Bar phase.Waits p since to)
bar_of_stage (stage.Active since) p to = Some (shape.Bar phase.Active p since to)
bar_of_stage stage.Done p to = None

-- the same of the packet of a row, if there is such a row
abbrev pub bar_of_row : Option Row → ℕ → ℕ → Option Shape
bar_of_row None p to = None
bar_of_row (Some row) p to = bar_of_stage row.stage p to

-- a bar of what packet p does, up to an event, if there is such a packet
abbrev pub bar_of : List Row → ℕ → ℕ → Option Shape
bar_of rows p to = bar_of_row (slice_get rows p) p to

-- what is drawn of an event of copies: a mark in the row of the lane's packet, or of the agent
abbrev pub copies_shape_of : ℕ → Event → Option Shape
copies_shape_of place event.Submit = None
copies_shape_of place (event.Launch queue) = None
copies_shape_of place (event.Observe p slot) = None
copies_shape_of place (event.Enter p) = None
copies_shape_of place (event.Fetch p) = None
copies_shape_of place (event.Deliver p) = None
copies_shape_of place (event.Complete p) = None
copies_shape_of place event.Rest = None
copies_shape_of place (event.Read p entry) = None
copies_shape_of place (event.Store p entry) = None
copies_shape_of place (event.Finish p) = None
copies_shape_of place (event.PushLane p byte) = Some (shape.Mark mark.Pushes p place)
copies_shape_of place (event.PushAgent agent byte) = Some (shape.AgentMark mark.Pushes agent place)
copies_shape_of place (event.FillLane p byte) = Some (shape.Mark mark.Fills p place)
copies_shape_of place (event.FillAgent agent byte) = Some (shape.AgentMark mark.Fills agent place)
copies_shape_of place (event.DropLane p byte) = Some (shape.Mark mark.Drops p place)
copies_shape_of place (event.DropAgent agent byte) = Some (shape.AgentMark mark.Drops agent place)

-- what is drawn of an event of copies, where these are asked for
abbrev pub copies_shape_if : Bool → ℕ → Event → Option Shape
copies_shape_if copies place e = if copies then copies_shape_of place e else None

-- what is drawn of the event of a place: a mark, or the bar of the phase that it ends; of events of copies only
-- where these are asked for
abbrev pub shape_of : Bool → List Row → ℕ → Event → Option Shape
shape_of copies rows place event.Submit = Some (shape.Submission place)
shape_of copies rows place (event.Launch queue) = None
shape_of copies rows place (event.Observe p slot) = Some (shape.Mark mark.Sees p place)
shape_of copies rows place (event.Enter p) = bar_of rows p place
shape_of copies rows place (event.Fetch p) = Some (shape.Mark mark.Reads p place)
shape_of copies rows place (event.Deliver p) = Some (shape.Mark mark.Stores p place)
shape_of copies rows place (event.Complete p) = bar_of rows p place
shape_of copies rows place event.Rest = None
shape_of copies rows place (event.Read p entry) = Some (shape.Mark mark.Reads p place)
shape_of copies rows place (event.Store p entry) = Some (shape.Mark mark.Stores p place)
shape_of copies rows place (event.Finish p) = bar_of rows p place
shape_of copies rows place (event.PushLane p byte) = copies_shape_if copies place (event.PushLane p byte)
shape_of copies rows place (event.PushAgent agent byte) = copies_shape_if copies place (event.PushAgent agent byte)
shape_of copies rows place (event.FillLane p byte) = copies_shape_if copies place (event.FillLane p byte)
shape_of copies rows place (event.FillAgent agent byte) = copies_shape_if copies place (event.FillAgent agent byte)
shape_of copies rows place (event.DropLane p byte) = copies_shape_if copies place (event.DropLane p byte)
shape_of copies rows place (event.DropAgent agent byte) = copies_shape_if copies place (event.DropAgent agent byte)
