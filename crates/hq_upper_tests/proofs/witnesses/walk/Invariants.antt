use Rattle.hq_job.specs.Plan.{plan}
use Rattle.hq_machine.specs.View.{IsStateOf}
use Rattle.hq_upper_tests.proofs.witnesses.walk.Given as goal

abbrev pub invariant-loop-event : goal.invariant-loop-event
invariant-loop-event l = IsStateOf (plan l.job) l.state
