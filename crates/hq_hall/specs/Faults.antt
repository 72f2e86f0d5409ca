-- Why the hall refuses.
use Rattle.hq_events.specs.declared.fault.StepFault.{StepFault}
use Rattle.hq_events.specs.declared.fault.StepFault.TheVariants as step
use Rattle.hq_hall.specs.declared.fault.HallFault.{HallFault}
use Rattle.hq_hall.specs.declared.fault.HallFault.TheVariants as fault

-- what a fault of a step is for the hall
abbrev pub hall_fault : StepFault → HallFault
hall_fault step.NotEnabled = fault.NotEnabled
hall_fault step.Memory = fault.Memory
