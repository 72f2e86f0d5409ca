-- What the host did, once it ended.
use Rattle.std.specs.Prelude.{◌≡◌, None}
use Rattle.hq_model.specs.Job.{Job}
use Rattle.hq_runner.specs.declared.host.Hosted.{Hosted}
use Rattle.hq_runner.specs.Lists.{IsHostProgram}

-- If it met no fault, then its list is all that the host does.
pub record HostDone (job : Job) (hosted : Hosted) : Type 0 where
  pub list : hosted.fault ≡ None → IsHostProgram job hosted.events.items
