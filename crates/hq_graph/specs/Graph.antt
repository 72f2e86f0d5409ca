-- The text of a graph, as a relation between a job and a text: which packets are before which, and which are stuck,
-- are relations too.
use Rattle.std.specs.Prelude.{◌≡◌, ℕ, zero, suc, ◌<◌, ◌↔◌, ◌⊎◌, Bool, ◌||◌, ◌==◌, if◌then◌else◌, IsTrue, List, []}
use Rattle.std.specs.Prelude.{◌++◌, Option, Some, None, is_some, length, codes, slice_get}
use Rattle.std.specs.List.{position}
use Rattle.std.specs.Fmt.{decimal}
use Rattle.std.specs.Io.KnownBytes.{Appends}
use Rattle.hq_packet.specs.declared.packet.Packet.{Packet}
use Rattle.hq_packet.specs.declared.packet.Packet.TheVariants as packet
use Rattle.hq_packet.specs.declared.packet.Head.{Head}
use Rattle.hq_packet.specs.Parts.{head_of}
use Rattle.hq_job.specs.Value.{JobValue}
use Rattle.hq_job.specs.Plan.{plan}
use Rattle.hq_tables.specs.declared.rows.Kernel.{Kernel}
use Rattle.hq_tables.specs.declared.rows.Placed.{Placed}
use Rattle.hq_tables.specs.declared.rows.Queue.{Queue}
use Rattle.hq_model.specs.Job.{Job}
use Rattle.hq_model.specs.Order.{Stuck}
use Rattle.hq_finding.specs.Names.{kind_name, why_name}
use Rattle.hq_fence.specs.declared.shown.Release.{Release}
use Rattle.hq_fence.specs.declared.shown.Release.TheVariants as release
use Rattle.hq_fence.specs.declared.shown.Acquire.{Acquire}
use Rattle.hq_fence.specs.declared.shown.Acquire.TheVariants as acquire
use Rattle.hq_fence.specs.declared.shown.Shown.{Shown}
use Rattle.hq_fence.specs.declared.shown.NotShown.{NotShown}
use Rattle.hq_audit.specs.declared.directed.Directed.{Directed}
use Rattle.hq_audit.specs.declared.directed.Unshown.{Unshown}
use Rattle.hq_audit.specs.Refused.{IsDirected, IsUnshown}
use Rattle.hq_report.specs.Shown.{kind_word, scope_word}
use Rattle.hq_graph.specs.declared.nodes.Work.{Work}
use Rattle.hq_graph.specs.declared.nodes.Work.TheVariants as work
use Rattle.hq_graph.specs.declared.nodes.Node.{Node}
use Rattle.hq_graph.specs.declared.part.Part.{Part}
use Rattle.hq_graph.specs.declared.part.Part.TheVariants as part
use Rattle.hq_graph.specs.declared.rule.Rule.{Rule}
use Rattle.hq_graph.specs.declared.rule.Rule.TheVariants as rule
use Rattle.hq_graph.specs.declared.wait.Wait.{Wait}
use Rattle.hq_graph.specs.declared.wait.Wait.TheVariants as wait
use Rattle.hq_fence.specs.Judgement.{HaveConflict}
use Rattle.hq_graph.specs.Order.{IsStep, IsRule, Awaits}

-- ---- forms of texts

-- a known text
abbrev pub Is : List ℕ → List ℕ → Type 0
Is known text = text ≡ known

-- one text, and the other behind it
pub record Then (First Second : List ℕ → Type 0) (text : List ℕ) : Type 0 where
  pub ahead : List ℕ
  pub behind : List ℕ
  pub first : First ahead
  pub second : Second behind
  pub joined : text ≡ ahead ++ behind

-- the texts of the numbers below n, rising
abbrev pub Each : (ℕ → List ℕ → Type 0) → ℕ → List ℕ → Type 0
Each Part zero text = Is [] text
Each Part (suc n) text = Then (Each Part n) (Part n) text

-- a text where something holds, and nothing where it doesn't
abbrev pub Where : Type 0 → (List ℕ → Type 0) → List ℕ → Type 0
Where Holds Line text = (Holds × Line text) ⊎ ((¬ Holds) × Is [] text)

-- a writer took such a text in
pub record Wrote (old new : Option (List ℕ)) (Says : List ℕ → Type 0) : Type 0 where
  pub text : List ℕ
  pub says : Says text
  pub appends : Appends old new text

-- ---- words. A name is made of a to z, 0 to 9 and underscore, so nothing in a label has to be escaped.

-- a name, and nothing where there is none
abbrev pub name_of : Option (List ℕ) → List ℕ
name_of None = []
name_of (Some name) = name

-- the arrow from one packet to another, and what opens its attributes
abbrev pub arrow_text : ℕ → ℕ → List ℕ
arrow_text from to = codes "p" ++ decimal from ++ codes " -> p" ++ decimal to ++ codes " ["

-- ---- packets

-- the first kernel that has the object
abbrev pub kernel_place : List Kernel → ℕ → Option ℕ
kernel_place kernels object = position (λ k. k.object == object) kernels

-- the kernel in this place of the list, if there is one
abbrev pub kernel_at : List Kernel → Option ℕ → Option Kernel
kernel_at kernels None = None
kernel_at kernels (Some place) = slice_get kernels place

-- the first of the job's kernels that has the object, if one has it
abbrev pub kernel_of : JobValue → ℕ → Option Kernel
kernel_of job object = kernel_at job.kernels (kernel_place job.kernels object)

-- what a kernel packet does: which kernel it launches, where the job has it
abbrev pub work_of_kernel : Option Kernel → Work
work_of_kernel None = work.Nothing
work_of_kernel (Some k) = work.Kernel k.name

-- what a packet of this job does: nothing, where it is a barrier packet
abbrev pub work_of : JobValue → Packet → Work
work_of job (packet.Kernel k) = work_of_kernel (kernel_of job k.object)
work_of job (packet.Agent a) = work.Service a.kind
work_of job (packet.And b) = work.Nothing
work_of job (packet.Or b) = work.Nothing

-- what a packet does, as it stands behind its kind: the kernel's name, or the number of the service
abbrev pub work_text : Work → List ℕ
work_text (work.Kernel name) = codes " " ++ name
work_text (work.Service kind) = codes " service " ++ decimal kind
work_text work.Nothing = []

-- the barrier bit, if it is set
abbrev pub bit_text : Bool → List ℕ
bit_text bit = if bit then codes "bit " else []

-- the barrier bit, if it is set, and the scopes of both fences
abbrev pub head_text : Head → List ℕ
head_text head = bit_text head.barrier ++ codes "acquire " ++ scope_word head.acquire ++ codes " release "
    ++ scope_word head.release

-- a packet's number, kind and work, and below them its barrier bit and fences; what parts the lines are the two
-- characters \ and n
abbrev pub label_text : Node → List ℕ
label_text node = decimal node.number ++ codes " " ++ kind_word node.packet ++ work_text node.work ++ codes "\\n"
    ++ head_text (head_of node.packet)

-- the colour of a packet's node: red where the packet can never complete
abbrev pub color_text : Bool → List ℕ
color_text stuck = if stuck then codes " color=red fontcolor=red" else []

-- the line of a packet's node, with its label and its colour
abbrev pub node_text : Node → Bool → List ℕ
node_text node stuck = codes "p" ++ decimal node.number ++ codes " [label=\"" ++ label_text node ++ codes "\""
    ++ color_text stuck ++ codes "];\n"

-- the node of a packet of this queue
abbrev pub node_in : JobValue → ℕ → ℕ → Placed → Option Node
node_in job queue p placed = if placed.queue == queue then Some
    (record { number = p; packet = placed.packet; work = work_of job placed.packet }) else None

-- the same of a packet that there is
abbrev pub node_at : JobValue → ℕ → ℕ → Option Placed → Option Node
node_at job queue p None = None
node_at job queue p (Some placed) = node_in job queue p placed

-- the node of packet p, if the job has it in this queue
abbrev pub node_of : JobValue → ℕ → ℕ → Option Node
node_of job queue p = node_at job queue p (slice_get job.packets p)

-- the line of a node, where there is one
abbrev pub node_there : Option Node → Bool → List ℕ
node_there None stuck = []
node_there (Some node) stuck = node_text node stuck

-- the line of packet p, where it is of this queue: red where the packet can never complete
abbrev pub NodeText : JobValue → Job → ℕ → ℕ → List ℕ → Type 0
NodeText job order queue p text = (stuck : Bool) × (IsTrue stuck ↔ Stuck order p)
    × Is (node_there (node_of job queue p) stuck) text

-- ---- queues

-- the name of an agent, if the job has it
abbrev pub agent_name : JobValue → ℕ → Option (List ℕ)
agent_name job agent = slice_get job.agents agent

-- what is told of a queue: its name, its agent's name, and how many slots it has
abbrev pub queue_label : Queue → Option (List ℕ) → List ℕ
queue_label queue agent = codes "queue " ++ queue.name ++ codes " agent " ++ name_of agent ++ codes " slots "
    ++ decimal queue.size

-- what opens the box around a queue's packets, with what is told of the queue
abbrev pub cluster_text : ℕ → Queue → Option (List ℕ) → List ℕ
cluster_text number queue agent = codes "subgraph cluster_" ++ decimal number ++ codes " {\nlabel=\""
    ++ queue_label queue agent ++ codes "\";\n"

-- the same of a queue of this job, which has the agent's name
abbrev pub queue_text : JobValue → ℕ → Queue → List ℕ
queue_text job number queue = cluster_text number queue (agent_name job queue.agent)

-- the same of a queue that there is
abbrev pub queue_there : JobValue → ℕ → Option Queue → List ℕ
queue_there job number None = []
queue_there job number (Some queue) = queue_text job number queue

-- what opens the box of the queue of this number, if the job has it
abbrev pub queue_line : JobValue → ℕ → List ℕ
queue_line job number = queue_there job number (slice_get job.queues number)

-- a queue's packets, with its name, its agent and how many slots it has
abbrev pub ClusterText : JobValue → Job → ℕ → List ℕ → Type 0
ClusterText job order queue text = Then
    (Then (Is (queue_line job queue)) (Each (NodeText job order queue) (length job.packets))) (Is (codes "}\n")) text

-- ---- steps of the order

-- the signal that a rule names
abbrev pub named_by : JobValue → Rule → Option (List ℕ)
named_by job (rule.Bit j) = None
named_by job rule.Queue = None
named_by job (rule.And s) = slice_get job.signal_names s
named_by job rule.Or = None

-- the label of a step's edge: the rule that gives the step, with the signal's name; dashed of a barrier-OR
abbrev pub rule_text : Rule → Option (List ℕ) → List ℕ
rule_text (rule.Bit j) name = codes "label=\"bit of " ++ decimal j ++ codes "\""
rule_text rule.Queue name = codes "label=\"queue\""
rule_text (rule.And s) name = codes "label=\"and " ++ name_of name ++ codes "\""
rule_text rule.Or name = codes "label=\"or\" style=dashed"

-- the edge of a step from p to r that this rule gives
abbrev pub step_text : JobValue → ℕ → ℕ → Rule → List ℕ
step_text job p r by = arrow_text p r ++ rule_text by (named_by job by) ++ codes "];\n"

-- the step's line, with a rule that gives it
abbrev pub StepText : JobValue → Job → ℕ → ℕ → List ℕ → Type 0
StepText job order p r text = (by : Rule) × IsRule order p r by × Is (step_text job p r by) text

-- ---- conflicts

-- the packets whose fences release, by number
abbrev pub release_text : Release → List ℕ
release_text (release.Alone x) = decimal x
release_text (release.Chained x x2) = decimal x ++ codes "," ++ decimal x2

-- the packets whose fences acquire, by number
abbrev pub acquire_text : Acquire → List ℕ
acquire_text (acquire.Alone y) = decimal y
acquire_text (acquire.Chained y2 y) = decimal y2 ++ codes "," ++ decimal y

-- what parts a kind from one ahead of it: the two characters \ and n
abbrev pub break_text : Bool → List ℕ
break_text behind = if behind then codes "\\n" else []

-- a write that the second packet reads, with the fences that order it, if there is one
abbrev pub wr_text : Option (Release × Acquire) → List ℕ
wr_text None = []
wr_text (Some fences) = codes "wr release " ++ release_text fences.0 ++ codes " acquire " ++ acquire_text fences.1

-- two writes, with the fences that order them, if there are such; on a new line where a kind stands ahead
abbrev pub ww_text : Bool → Option Release → List ℕ
ww_text behind None = []
ww_text behind (Some fences) = break_text behind ++ codes "ww release " ++ release_text fences

-- a read of what the second packet writes, if there is one; on a new line where a kind stands ahead
abbrev pub rw_text : Bool → Bool → List ℕ
rw_text behind there = if there then break_text behind ++ codes "rw" else []

-- the kinds that there are, with the fences that order each
abbrev pub kinds_text : Shown → List ℕ
kinds_text shown = wr_text shown.wr ++ ww_text (is_some shown.wr) shown.ww ++ rw_text
    (is_some shown.wr || is_some shown.ww) shown.rw

-- the edge of two packets whose conflicts are ordered: grey, with each kind and its fences
abbrev pub ordered_text : Directed → List ℕ
ordered_text d = arrow_text d.first d.second ++ codes "color=gray penwidth=0.5 fontcolor=gray label=\""
    ++ kinds_text d.shown ++ codes "\"];\n"

-- the kind of a conflict that isn't ordered, and why it isn't
abbrev pub fault_text : NotShown → List ℕ
fault_text fault = kind_name fault.kind ++ codes " " ++ why_name fault.why

-- the edge of a conflict that isn't ordered: red, with its kind and why it isn't
abbrev pub open_text : Unshown → List ℕ
open_text u = arrow_text u.p u.r ++ codes "color=red fontcolor=red label=\"" ++ fault_text u.fault ++ codes "\"];\n"

-- the two in the direction in which they are ordered, or in red where they aren't
abbrev pub ConflictText : Job → ℕ → ℕ → List ℕ → Type 0
ConflictText order a b text = ((d : Directed) × IsDirected order a b d × Is (ordered_text d) text)
    ⊎ ((u : Unshown) × IsUnshown order a b u × Is (open_text u) text)

-- ---- what stuck packets wait for

-- the name of the signal that is waited for, where it is a signal
abbrev pub awaited_by : JobValue → Wait → Option (List ℕ)
awaited_by job wait.Ahead = None
awaited_by job wait.Slot = None
awaited_by job (wait.Signal s) = slice_get job.signal_names s
awaited_by job wait.Turn = None

-- what is waited for: packet p, the slot that it has, a signal by its name, or the submission of p
abbrev pub awaited_text : ℕ → Wait → Option (List ℕ) → List ℕ
awaited_text p wait.Ahead name = codes "packet " ++ decimal p
awaited_text p wait.Slot name = codes "its slot"
awaited_text p (wait.Signal s) name = name_of name
awaited_text p wait.Turn name = codes "the submission of packet " ++ decimal p

-- the edge from r to p, for which it waits: red and dotted, with what is waited for
abbrev pub wait_line : ℕ → ℕ → Wait → Option (List ℕ) → List ℕ
wait_line p r by name = arrow_text r p ++ codes "color=red style=dotted fontcolor=red label=\"waits for "
    ++ awaited_text p by name ++ codes "\"];\n"

-- the same in this job, which has the signal's name
abbrev pub wait_text : JobValue → ℕ → ℕ → Wait → List ℕ
wait_text job p r by = wait_line p r by (awaited_by job by)

-- the line of a way in which r waits for p
abbrev pub WaitText : JobValue → Job → ℕ → ℕ → List ℕ → Type 0
WaitText job order p r text = (by : Wait) × Awaits order p r by × Is (wait_text job p r by) text

-- ---- the parts that have a text for each two packets

-- what a part has for two packets, if there is something: a step from the second to the first; a conflict, the lower
-- number first; or a way in which the first waits for the second
abbrev pub PairText : JobValue → Job → Part → ℕ → ℕ → List ℕ → Type 0
PairText job order part.Steps r p text = Where (IsStep order p r) (StepText job order p r) text
PairText job order part.Conflicts a b text = Where ((a < b) × HaveConflict order a b) (ConflictText order a b) text
PairText job order part.Waits r p text = Where ((by : Wait) × Awaits order p r by) (WaitText job order p r) text

-- what a part has for packet r and each packet of the job, in number order
abbrev pub RowText : JobValue → Job → Part → ℕ → List ℕ → Type 0
RowText job order which r text = Each (PairText job order which r) (length order.packets) text

-- all that a part has: for each packet, in number order, what it has for that one and each packet
abbrev pub PairsText : JobValue → Job → Part → List ℕ → Type 0
PairsText job order which text = Each (RowText job order which) (length order.packets) text

-- ---- the whole

-- what opens the graph: its name, and how nodes and edges look
abbrev pub opening : List ℕ
opening = codes "digraph hsaq {\nnode [shape=box fontname=monospace];\nedge [fontname=monospace fontsize=9];\n"

-- all queues with their packets, in number order
abbrev pub ClustersText : JobValue → Job → List ℕ → Type 0
ClustersText job order text = Each (ClusterText job order) (length job.queues) text

-- the queues with their packets; the steps; the conflicts; and what stuck packets wait for
abbrev pub DrawnText : JobValue → Job → List ℕ → Type 0
DrawnText job order text =
    Then (Then (Then (Then (Then (Is opening) (ClustersText job order)) (PairsText job order part.Steps))
    (PairsText job order part.Conflicts)) (PairsText job order part.Waits)) (Is (codes "}\n")) text

-- The text is a picture of the job's order.
abbrev pub GraphText : JobValue → List ℕ → Type 0
GraphText job text = DrawnText job (plan job) text
