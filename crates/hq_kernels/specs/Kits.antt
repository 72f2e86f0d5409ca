-- The bodies of a queue's packets, and which suit a job.
use Rattle.std.specs.Prelude.{◌≡◌, ℕ, ◌<◌, Bool, true, false, List, [], ◌∷◌, length, map, filter, slice_index_or, All}
use Rattle.std.specs.Prelude.{slice_range}
use Rattle.std.specs.declared.dyn_box.DynBox.{DynBox}
use Rattle.std.specs.declared.alloc.Global.{Global}
use Rattle.hq_packet.specs.declared.packet.Packet.{Packet}
use Rattle.hq_packet.specs.declared.packet.Packet.TheVariants as packet
use Rattle.hq_tables.specs.declared.rows.Placed.{Placed}
use Rattle.hq_job.specs.Access.{AreOfQueue}
use Rattle.hq_job.specs.Plan.{plan}
use Rattle.hq_job.specs.Value.{JobValue}
use Rattle.hq_kernels.specs.declared.kit.Body.{Body}
use Rattle.hq_kernels.specs.declared.kit.Body.TheVariants.{Stock, Kernel, Service}
use Rattle.hq_kernels.specs.declared.kit.Kit.{Kit}
use Rattle.hq_kernels.specs.Bodies.{BodyValue}

-- which packets a body is for: kernel or agent dispatches, or either
pub data Sort : Type 0 where
  ForEither ForKernels ForAgents : Sort

-- A body of a kit as its callers see it.
pub record BodySeen : Type 0 where
  pub sort : Sort
  pub value : BodyValue

-- a body as its callers see it, by how they see one made for kernels or for services; a stock body is for either
abbrev pub seen : {X : Type 0} {Y : X → Type 0} {V : Type 0} {W : V → Type 0} → (DynBox X Global Y → BodyValue)
    → (DynBox V Global W → BodyValue)
    → Body X V Y W → BodySeen
seen kernel service (Stock stock) = record { sort = ForEither; value = stock }
seen kernel service (Kernel body) = record { sort = ForKernels; value = kernel body }
seen kernel service (Service body) = record { sort = ForAgents; value = service body }

-- The body is a stock body.
abbrev pub IsStock : BodySeen → Type 0
IsStock body = body.sort ≡ ForEither

-- The body is a stock body that holds no piece.
pub record IsEmptyStock (body : BodySeen) : Type 0 where
  pub stock : IsStock body
  pub empty : body.value.held ≡ []

-- All bodies of these kits are stock bodies that hold no piece.
abbrev pub AreStockKits : List (List BodySeen) → Type 0
AreStockKits kits = All (λ bodies. All IsEmptyStock bodies) kits

-- its task, the pieces that it holds, and whether it has run
abbrev pub value_of : {X : Type 0} {Y : X → Type 0} {V : Type 0} {W : V → Type 0} → (DynBox X Global Y → BodyValue)
    → (DynBox V Global W → BodyValue)
    → Body X V Y W → BodyValue
value_of kernel service body = (seen kernel service body).value

-- the bodies of each kit
abbrev pub bodies_of : {X : Type 0} {Y : X → Type 0} {V : Type 0} {W : V → Type 0} → (DynBox X Global Y → BodyValue)
    → (DynBox V Global W → BodyValue)
    → List (Kit X V Y W) → List (List BodySeen)
bodies_of kernel service kits = map (λ kit. map (seen kernel service) kit.bodies.items) kits

-- whether a packet is a kernel or an agent dispatch
abbrev pub is_work : Packet → Bool
is_work (packet.Kernel kernel) = true
is_work (packet.Agent call) = true
is_work (packet.And barrier) = false
is_work (packet.Or barrier) = false

-- Bodies of this sort are for packets of this kind.
abbrev pub Serves : Sort → Packet → Type 0
Serves ForEither packet = Unit {0}
Serves ForKernels (packet.Kernel kernel) = Unit {0}
Serves ForAgents (packet.Agent call) = Unit {0}
Serves other packet = ⊥

-- The body is for this packet: it serves its kind, does its task, and hasn't run.
pub record IsFor (placed : Placed) (body : BodySeen) : Type 0 where
  pub kind : Serves body.sort placed.packet
  pub task : body.value.task ≡ placed.work.task
  pub fresh : body.value.ran ≡ false

-- The bodies are for these packets, one for each, in the same order.
abbrev pub AreFor : List Placed → List BodySeen → Type 0
AreFor [] [] = Unit {0}
AreFor (placed ∷ packets) (body ∷ bodies) = IsFor placed body × AreFor packets bodies
AreFor packets bodies = ⊥

-- The bodies are for those of these packets that aren't barriers.
abbrev pub BodiesFit : List Placed → List BodySeen → Type 0
BodiesFit packets bodies = AreFor (filter (λ placed. is_work placed.packet) packets) bodies

-- The bodies fit the packets of this queue, in the order of their numbers.
pub record KitFits (job : JobValue) (queue : ℕ) (bodies : List BodySeen) : Type 0 where
  pub fit : (start stop : ℕ) → AreOfQueue (plan job) queue start stop
      → BodiesFit (slice_range job.packets start stop) bodies

-- Each queue has a kit, and its bodies fit the queue's packets.
pub record KitsFit (job : JobValue) (kits : List (List BodySeen)) : Type 0 where
  pub count : length kits ≡ length job.queues
  pub each : (queue : ℕ) → queue < length job.queues → KitFits job queue (slice_index_or kits queue [])
