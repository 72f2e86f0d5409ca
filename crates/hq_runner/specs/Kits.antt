-- Bodies that have run.
use Rattle.std.specs.Prelude.{◌≡◌, true, List, All, map}
use Rattle.std.specs.declared.dyn_box.DynBox.{DynBox}
use Rattle.std.specs.declared.alloc.Global.{Global}
use Rattle.hq_footprint.specs.declared.task.Task.{Task}
use Rattle.hq_kernels.specs.declared.kit.Body.{Body}
use Rattle.hq_kernels.specs.Bodies.{BodyValue}
use Rattle.hq_kernels.specs.Kits.{value_of}

-- the tasks of bodies, in their order
abbrev pub tasks_of : {X : Type 0} {Y : X → Type 0} {V : Type 0} {W : V → Type 0} → (DynBox X Global Y → BodyValue)
    → (DynBox V Global W → BodyValue)
    → List (Body X V Y W) → List Task
tasks_of kernel service bodies = map (λ body. (value_of kernel service body).task) bodies

-- Each body has run.
pub record AllRan {X : Type 0} {Y : X → Type 0} {V : Type 0} {W : V → Type 0} (kernel : DynBox X Global Y → BodyValue)
    (service : DynBox V Global W → BodyValue)
    (bodies : List (Body X V Y W)) : Type 0 where
  pub each : All (λ body. (value_of kernel service body).ran ≡ true) bodies
