-- The text of a picture. A unit across is a tenth of an event, so that what happens at event 12 is drawn at 120.
use Rattle.std.specs.Prelude.{ℕ, zero, suc, ◌+◌, ◌*◌, Bool, if◌then◌else◌, List, [], ◌∷◌, ◌++◌, Option, Some, None}
use Rattle.std.specs.Prelude.{length, codes, slice_get}
use Rattle.std.specs.Fmt.{decimal}
use Rattle.hq_job.specs.Value.{JobValue}
use Rattle.hq_tables.specs.declared.rows.Placed.{Placed}
use Rattle.hq_tables.specs.declared.rows.Queue.{Queue}
use Rattle.hq_events.specs.declared.event.Event.{Event}
use Rattle.hq_report.specs.Shown.{packet_text}
use Rattle.hq_chart.specs.declared.rows.Row.{Row}
use Rattle.hq_chart.specs.declared.shape.Shape.{Shape}
use Rattle.hq_chart.specs.declared.shape.Shape.TheVariants as shape
use Rattle.hq_chart.specs.declared.shape.Phase.{Phase}
use Rattle.hq_chart.specs.declared.shape.Phase.TheVariants as phase
use Rattle.hq_chart.specs.declared.shape.Mark.{Mark}
use Rattle.hq_chart.specs.declared.shape.Mark.TheVariants as mark
use Rattle.hq_chart.specs.declared.spots.Spot.{Spot}
use Rattle.hq_chart.specs.declared.writing.Outline.{Outline}
use Rattle.hq_report.specs.declared.shown.ShownPacket.{ShownPacket}
use Rattle.hq_chart.specs.Rows.{rows_of, moved, rows_after, shape_of, bar_of}

-- ---- where things lie

-- how far a row lies below the upper edge: packets behind one another, and a gap before each queue
abbrev pub line_of : ℕ → ℕ → ℕ
line_of packets queue = 74 + 16 * packets + 8 * queue

-- agents' rows lie below those of packets
abbrev pub agent_line : JobValue → ℕ → ℕ
agent_line job agent = line_of (length job.packets) (length job.queues) + 16 * agent

-- agents have rows where copies are asked for
abbrev pub agents_drawn : JobValue → Bool → ℕ
agents_drawn job copies = if copies then length job.agents else 0

-- how high the picture is: down to where one more row would lie
abbrev pub height_of : JobValue → Bool → ℕ
height_of job copies = agent_line job (agents_drawn job copies)

-- a packet as it is told of, and where its row lies
abbrev pub spot_in : ℕ → Placed → Option Queue → Option Spot
spot_in number placed None = None
spot_in number placed (Some queue) = Some
    (record
    { shown = record { number = number; queue = queue.name; placed = placed }; y = line_of number placed.queue })

-- the same of a packet that there is, in its queue of the job
abbrev pub spot_at : JobValue → ℕ → Option Placed → Option Spot
spot_at job number None = None
spot_at job number (Some placed) = spot_in number placed (slice_get job.queues placed.queue)

-- the packet of this number as it is told of, and where its row lies, if the job has it
abbrev pub spot_of : JobValue → ℕ → Option Spot
spot_of job number = spot_at job number (slice_get job.packets number)

-- what a title tells of a packet: its line as `show` prints it
abbrev pub told : ShownPacket → List ℕ
told shown = packet_text shown.number shown.queue shown.placed

-- ---- shapes

-- the name of a bar's style: `w` while the packet waits to become active, `a` while it is active
abbrev pub phase_word : Phase → List ℕ
phase_word phase.Waits = codes "w"
phase_word phase.Active = codes "a"

-- the outline of a bar
abbrev pub outline_text : ℕ → ℕ → ℕ → List ℕ
outline_text from to y = codes "M" ++ decimal from ++ codes "0 " ++ decimal y ++ codes "m0-5v10H" ++ decimal to
    ++ codes "0v-10z"

-- a bar of this phase and outline, with what is told of the packet as its title
abbrev pub bar_text : Phase → Outline → ShownPacket → List ℕ
bar_text which outline shown =
    codes "<path class='" ++ phase_word which ++ codes "' d='" ++ outline_text outline.from outline.to outline.y
    ++ codes "'><title>" ++ told shown ++ codes "</title></path>\n"

-- a mark at an event, in a row that lies so far below the upper edge
abbrev pub mark_text : Mark → ℕ → ℕ → List ℕ
mark_text mark.Sees at y = codes "<path d='M" ++ decimal at ++ codes "0 " ++ decimal y ++ codes "v-7'/>\n"
mark_text mark.Reads at y = codes "<circle class='r' cx='" ++ decimal at ++ codes "0' cy='" ++ decimal y
    ++ codes "' r='3'/>\n"
mark_text mark.Stores at y = codes "<circle cx='" ++ decimal at ++ codes "0' cy='" ++ decimal y ++ codes "' r='3'/>\n"
mark_text mark.Fills at y = codes "<path d='M" ++ decimal at ++ codes "0 " ++ decimal y ++ codes "m-3-3l3 6 3-6'/>\n"
mark_text mark.Pushes at y = codes "<path d='M" ++ decimal at ++ codes "0 " ++ decimal y ++ codes "m-3 3l3-6 3 6'/>\n"
mark_text mark.Drops at y = codes "<path d='M" ++ decimal at ++ codes "0 " ++ decimal y
    ++ codes "m-3-3l6 6m-6 0l6-6'/>\n"

-- the tick of a submission, in the host's row
abbrev pub submission_text : ℕ → List ℕ
submission_text at = codes "<path d='M" ++ decimal at ++ codes "0 50v8'/>\n"

-- a bar in the packet's row, from one event to another, if there is such a packet
abbrev pub bar_there : Phase → ℕ → ℕ → Option Spot → List ℕ
bar_there which from to None = []
bar_there which from to (Some spot) = bar_text which (record { from = from; to = to; y = spot.y }) spot.shown

-- a mark in the packet's row, if there is such a packet
abbrev pub mark_there : Mark → ℕ → Option Spot → List ℕ
mark_there which at None = []
mark_there which at (Some spot) = mark_text which at spot.y

-- a shape in its packet's row
abbrev pub shape_text : JobValue → Shape → List ℕ
shape_text job (shape.Bar which p from to) = bar_there which from to (spot_of job p)
shape_text job (shape.Mark which p at) = mark_there which at (spot_of job p)
shape_text job (shape.AgentMark which agent at) = mark_text which at (agent_line job agent)
shape_text job (shape.Submission at) = submission_text at

-- a shape, and nothing where there is none
abbrev pub part_text : JobValue → Option Shape → List ℕ
part_text job None = []
part_text job (Some it) = shape_text job it

-- ---- the parts of the picture

-- how it looks, and what its signs mean
abbrev pub styles : List ℕ
styles = codes "<style>text{font:11px monospace}path{fill:none;stroke:#000}"
    ++ codes ".w{stroke-dasharray:3 2}.a{fill:#56b4e9;fill-opacity:.4}"
    ++ codes ".r{fill:#fff;stroke:#000}.x{stroke:#d55e00;stroke-width:2}</style>\n"
    ++ codes "<rect x='-160' width='100%' height='100%' fill='#fff'/>\n"
    ++ codes "<text x='-156' y='14'>dashed: launched; filled: active; ring: reads;</text>\n"
    ++ codes "<text x='-156' y='28'>dot: stores; tick: a signal at 0, a submission;</text>\n"
    ++ codes "<text x='-156' y='42'>v: a copy is taken, ^: written back, x: dropped</text>\n"

-- the host has a row where queues are rings
abbrev pub host_text : Bool → List ℕ
host_text rings = if rings then codes "<text x='-156' y='58'>host</text>\n" else []

-- a width in events, and a height
abbrev pub size_text : ℕ → ℕ → List ℕ
size_text width height = codes "width='" ++ decimal width ++ codes "0' height='" ++ decimal height
    ++ codes "' viewBox='-160 0 " ++ decimal width ++ codes "0 " ++ decimal height ++ codes "'"

-- how the picture looks and what its signs mean, and the label of the host's row where there is one
abbrev pub legend_text : Bool → List ℕ
legend_text rings = styles ++ host_text rings

-- the tag that opens the picture, with its width in events and its height
abbrev pub opening_text : ℕ → ℕ → List ℕ
opening_text width height = codes "<svg xmlns='http://www.w3.org/2000/svg' " ++ size_text width height ++ codes ">\n"

-- its size, by how many events it has, and the row of the host where queues are rings
abbrev pub head_text : JobValue → Bool → ℕ → List ℕ
head_text job copies events = opening_text (events + 40) (height_of job copies) ++ legend_text job.rings

-- a row's number and its queue's name
abbrev pub label_of : Spot → List ℕ
label_of spot = codes "<text x='-156' y='" ++ decimal spot.y ++ codes "' dy='4'>" ++ decimal spot.shown.number
    ++ codes " " ++ spot.shown.queue ++ codes "<title>" ++ told spot.shown ++ codes "</title></text>\n"

-- the label of a row, where there is such a row
abbrev pub label_there : Option Spot → List ℕ
label_there None = []
label_there (Some spot) = label_of spot

-- the label of packet p's row, if the job has the packet
abbrev pub label_text : JobValue → ℕ → List ℕ
label_text job p = label_there (spot_of job p)

-- the labels of the first rows
abbrev pub rows_text : JobValue → ℕ → List ℕ
rows_text job zero = []
rows_text job (suc n) = rows_text job n ++ label_text job n

-- the label of an agent's row, which lies so far below the upper edge
abbrev pub agent_text : List ℕ → ℕ → List ℕ
agent_text name y = codes "<text x='-156' y='" ++ decimal y ++ codes "' dy='4'>agent " ++ name ++ codes "</text>\n"

-- the same of an agent that there is
abbrev pub agent_there : ℕ → Option (List ℕ) → List ℕ
agent_there y None = []
agent_there y (Some name) = agent_text name y

-- the label of this agent's row, if the job has the agent
abbrev pub agent_label : JobValue → ℕ → List ℕ
agent_label job agent = agent_there (agent_line job agent) (slice_get job.agents agent)

-- the labels of the first agents' rows
abbrev pub agents_text : JobValue → ℕ → List ℕ
agents_text job zero = []
agents_text job (suc n) = agents_text job n ++ agent_label job n

-- what is drawn of events, the first of which has this place
abbrev pub events_text : JobValue → Bool → List Row → ℕ → List Event → List ℕ
events_text job copies rows place [] = []
events_text job copies rows place (e ∷ es) = part_text job (shape_of copies rows place e) ++ events_text job copies
    (moved rows place e) (place + 1) es

-- the bars of the first packets, up to the end, as far as they aren't complete
abbrev pub open_text : JobValue → List Row → ℕ → ℕ → List ℕ
open_text job rows end zero = []
open_text job rows end (suc n) = open_text job rows end n ++ part_text job (bar_of rows n end)

-- those of all packets
abbrev pub left_text : JobValue → List Row → ℕ → List ℕ
left_text job rows end = open_text job rows end (length rows)

-- that the event of this place isn't enabled: a line down the picture, and a note
abbrev pub end_line : ℕ → ℕ → List ℕ
end_line place height = codes "<path class='x' d='M" ++ decimal place ++ codes "0 46V" ++ decimal height
    ++ codes "'/>\n"

-- the note beside the line: that the event of this place isn't enabled
abbrev pub end_note : ℕ → List ℕ
end_note place = codes "<text x='" ++ decimal place ++ codes "0' y='58' dx='4'>event " ++ decimal place
    ++ codes " is not enabled</text>\n"

-- the line and the note, in a picture that is as high as the job's rows ask for
abbrev pub refusal_text : JobValue → Bool → ℕ → List ℕ
refusal_text job copies place = end_line place (height_of job copies) ++ end_note place

-- how the picture ends: with both where the event of this place is refused, else with neither
abbrev pub end_text : JobValue → Bool → ℕ → Bool → List ℕ
end_text job copies place refused = if refused then refusal_text job copies place else []

-- ---- the whole

-- the picture of these events, before the first of which packets do what their rows say
abbrev pub drawn_text : JobValue → Bool → List Row → List Event → Bool → List ℕ
drawn_text job copies rows events refused =
    head_text job copies (length events) ++ rows_text job (length job.packets) ++ agents_text job
    (agents_drawn job copies) ++ events_text job copies rows 0 events
    ++ left_text job (rows_after rows 0 events) (length events)
    ++ end_text job copies (length events) refused ++ codes "</svg>\n"

-- The picture of events that happened, those of copies only where these are asked for, with the refusal of the next
-- one behind them where there is one.
abbrev pub chart_text : JobValue → Bool → List Event → Bool → List ℕ
chart_text job copies events refused = drawn_text job copies (rows_of job.packets) events refused
