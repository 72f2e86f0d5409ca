-- Events that are one step, among all events.
use Rattle.std.proofs.Common.{IfSome, IsSome, refl}
use Rattle.hq_model.specs.Job.{Job}
use Rattle.hq_model.specs.Journal.{Coarse}
use Rattle.hq_model.specs.Journal.Coarse.{One, Fetch, Deliver, Complete, Rest}
use Rattle.hq_machine.specs.Changes.{Moved, Applied}
use Rattle.hq_machine.specs.Enabled.{Refused, NotApplied}
use Rattle.hq_machine.specs.State.{StateValue}
use Rattle.hq_events.specs.Events.{one_of}
use Rattle.hq_events.specs.declared.fault.StepFault.{StepFault}
use Rattle.hq_events.specs.declared.fault.StepFault.TheVariants as fault

pub applied_one : (job : Job) (old : StateValue) (event : Coarse) (new : StateValue) → IsSome (one_of event) → IfSome (one_of event) (λ e. Moved job old e new) → Applied job old event new
applied_one job old (One e) new some moved = record { is = moved.is; happens = (_, moved.step, refl) }
applied_one job old (Fetch p) new some moved = absurd cc
applied_one job old (Deliver p) new some moved = absurd cc
applied_one job old (Complete p) new some moved = absurd cc
applied_one job old Rest new some moved = absurd cc

pub not_applied_one : (job : Job) (v : StateValue) (event : Coarse) (why : StepFault) → IsSome (one_of event) → IfSome (one_of event) (λ e. Refused job v e why) → NotApplied job v event why
not_applied_one job v (One e) fault.NotEnabled some refused = λ possible. refused (possible.1.0, possible.1.1)
not_applied_one job v (One e) fault.Memory some refused = (refused.0, (refused.0, refused.1, refl))
not_applied_one job v (Fetch p) why some refused = absurd cc
not_applied_one job v (Deliver p) why some refused = absurd cc
not_applied_one job v (Complete p) why some refused = absurd cc
not_applied_one job v Rest why some refused = absurd cc
