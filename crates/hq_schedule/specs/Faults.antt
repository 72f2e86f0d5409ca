-- What a fault says.
use Rattle.hq_model.specs.Job.{Job}
use Rattle.hq_waits.specs.declared.fault.OrderFault.{OrderFault}
use Rattle.hq_waits.specs.declared.fault.OrderFault.TheVariants.{Stuck, Memory}
use Rattle.hq_schedule.specs.Placing.{AreStuck}

-- a list of stuck packets is the right one
abbrev pub StuckWhereSo : Job → OrderFault → Type 0
StuckWhereSo job (Stuck list) = AreStuck job list.items
StuckWhereSo job Memory = Unit {0}
