-- What processors that ended did.
use Rattle.std.specs.Prelude.{◌≡◌, ℕ, ◌<◌, List, None, length, slice_index_or}
use Rattle.std.specs.declared.dyn_box.DynBox.{DynBox}
use Rattle.std.specs.declared.alloc.Global.{Global}
use Rattle.hq_kernels.specs.Bodies.{BodyValue}
use Rattle.hq_kernels.specs.declared.kit.Kit.{Kit}
use Rattle.hq_model.specs.Job.{Job}
use Rattle.hq_runner.specs.declared.queue.Ended.{Ended}
use Rattle.hq_runner.specs.Kits.{AllRan, tasks_of}
use Rattle.hq_runner.specs.Lists.{IsProgram}

-- The processor of queue q ended, which began with this kit: its bodies have their tasks, and if it met no fault,
-- then its list is all that the queue's processor does, and its bodies have run.
pub record Done {X : Type 0} {Y : X → Type 0} {V : Type 0} {W : V → Type 0} (kernel : DynBox X Global Y → BodyValue)
    (service : DynBox V Global W → BodyValue)
    (job : Job) (q : ℕ) (kit : Kit X V Y W) (ended : Ended X V Y W) : Type 0 where
  pub tasks : tasks_of kernel service ended.kit.bodies.items ≡ tasks_of kernel service kit.bodies.items
  pub list : ended.fault ≡ None → IsProgram job q ended.events.items
  pub ran : ended.fault ≡ None → AllRan kernel service ended.kit.bodies.items

-- Each processor ended so, the n-th with the n-th kit as that of queue n.
pub record AllDone {X : Type 0} {Y : X → Type 0} {V : Type 0} {W : V → Type 0} (kernel : DynBox X Global Y → BodyValue)
    (service : DynBox V Global W → BodyValue)
    (job : Job) (kits : List (Kit X V Y W)) (all : List (Ended X V Y W)) : Type 0 where
  pub count : length all ≡ length kits
  pub each : (q : ℕ) (kit : Kit X V Y W) (ended : Ended X V Y W) → q < length kits → kit ≡ slice_index_or kits q kit
      → ended ≡ slice_index_or all q ended → Done kernel service job q kit ended
