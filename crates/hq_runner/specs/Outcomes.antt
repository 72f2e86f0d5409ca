-- How runs end.
use Rattle.std.specs.Prelude.{◌≡◌, ◌≢◌, ℕ, ◌+◌, ◌<◌, ◌≤◌, ◌^◌, ◌==◌, List, All, IsTrue, None, count_by, length, map}
use Rattle.std.specs.Prelude.{slice_index_or}
use Rattle.std.specs.declared.dyn_box.DynBox.{DynBox}
use Rattle.std.specs.declared.alloc.Global.{Global}
use Rattle.hq_hall.specs.Handing.{work_of}
use Rattle.hq_hall.specs.View.{HallValue, job_of, state_in}
use Rattle.hq_job.specs.Plan.{plan}
use Rattle.hq_job.specs.Value.{JobValue}
use Rattle.hq_tables.specs.declared.rows.Placed.{Placed}
use Rattle.hq_kernels.specs.Bodies.{BodyValue, pieces_of}
use Rattle.hq_kernels.specs.declared.kit.Kit.{Kit}
use Rattle.hq_events.specs.declared.event.Event.{Event}
use Rattle.hq_model.specs.Job.{Job, IsPacket}
use Rattle.hq_model.specs.Machine.Phase.{Complete}
use Rattle.hq_runner.specs.declared.outcome.RunFault.{RunFault}
use Rattle.hq_runner.specs.declared.outcome.RunFault.TheVariants as fault
use Rattle.hq_runner.specs.declared.queue.Ended.{Ended}
use Rattle.hq_runner.specs.Journals.{events_of, host_events, is_asked}
use Rattle.hq_runner.specs.Kits.{AllRan, tasks_of}
use Rattle.hq_runner.specs.Lists.{IsProgram}

-- Where a body failed, its packet is one of these; of all pieces that came home by being dropped, this many are the
-- packet's, and so many more it had.
abbrev pub IsCounted : List Placed → RunFault → Type 0
IsCounted packets (fault.Kernel packet home lost found) = (packet < length packets)
    × (home ≡ count_by (λ one. one.packet == packet) found.items)
    × (home + lost ≡ pieces_of (work_of packets packet).task)
IsCounted packets other = Unit {0}

-- No processor met a fault.
pub record NoFault {X : Type 0} {Y : X → Type 0} {V : Type 0} {W : V → Type 0}
    (all : List (Ended X V Y W)) : Type 0 where
  pub each : All (λ ended. ended.fault ≡ None) all

-- The list of each processor is its queue's in the journal.
pub record AreReceipts {X : Type 0} {Y : X → Type 0} {V : Type 0} {W : V → Type 0} (job : Job) (events : List Event)
    (all : List (Ended X V Y W)) : Type 0 where
  pub each : (q : ℕ) (ended : Ended X V Y W) → q < length all → ended ≡ slice_index_or all q ended
      → events_of job q events ≡ ended.events.items

-- The first list that isn't the journal's stands in place q: it is that of queue q's processor, or the host's, which
-- stands behind all of them.
pub record IsFirstWrong {X : Type 0} {Y : X → Type 0} {V : Type 0} {W : V → Type 0} (job : Job) (events host : List Event)
    (all : List (Ended X V Y W)) (q : ℕ) : Type 0 where
  pub place : q ≤ length all
  pub before : (k : ℕ) (ended : Ended X V Y W) → k < q → ended ≡ slice_index_or all k ended
      → events_of job k events ≡ ended.events.items
  pub of_queue : (ended : Ended X V Y W) → q < length all → ended ≡ slice_index_or all q ended
      → events_of job q events ≢ ended.events.items
  pub of_host : q ≡ length all → host_events events ≢ host

-- Where lists differ, P holds of the place of the one that is told of.
abbrev pub OnReceipts : RunFault → (ℕ → Type 0) → Type 0
OnReceipts (fault.Receipts q) P = P q
OnReceipts other P = Unit {0}

-- The journal is what was done: of few enough processors and the host it has just their lists, and no other events; it
-- is of this job, and completes its packets.
pub record Agrees {X : Type 0} {Y : X → Type 0} {V : Type 0} {W : V → Type 0} (job : JobValue) (hall : HallValue)
    (host : List Event) (all : List (Ended X V Y W)) : Type 0 where
  pub few : length all < 2 ^ 16
  pub same : hall.job.job ≡ job
  pub complete : (p : ℕ) → IsPacket (job_of hall) p → (state_in hall).phase p ≡ Complete
  pub asked : All (λ event. IsTrue (is_asked event)) hall.events
  pub receipts : AreReceipts (plan job) hall.events all
  pub of_host : host_events hall.events ≡ host

-- Each processor that met no fault did all that its queue's does.
pub record ListsDone {X : Type 0} {Y : X → Type 0} {V : Type 0} {W : V → Type 0} (job : Job)
    (all : List (Ended X V Y W)) : Type 0 where
  pub count : length all ≡ length job.queues
  pub each : (q : ℕ) (ended : Ended X V Y W) → q < length all → ended ≡ slice_index_or all q ended → ended.fault ≡ None
      → IsProgram job q ended.events.items

-- the kits that processors give back
abbrev pub kits_in : {X : Type 0} {Y : X → Type 0} {V : Type 0} {W : V → Type 0} → List (Ended X V Y W)
    → List (Kit X V Y W)
kits_in all = map (λ ended. ended.kit) all

-- The bodies of each kit have the tasks of those of the kit in the same place, and have run.
pub record KitsRan {X : Type 0} {Y : X → Type 0} {V : Type 0} {W : V → Type 0} (kernel : DynBox X Global Y → BodyValue)
    (service : DynBox V Global W → BodyValue)
    (old new : List (Kit X V Y W)) : Type 0 where
  pub tasks : map (λ kit. tasks_of kernel service kit.bodies.items) new ≡ map
      (λ kit. tasks_of kernel service kit.bodies.items) old
  pub ran : All (λ kit. AllRan kernel service kit.bodies.items) new
