use Rattle.hq_job.specs.Plan.{plan}
use Rattle.hq_hall.proofs.Events.{run_grows}
use Rattle.hq_hall.proofs.history.History.take.Goals as goal

-- the journal has one event more
pub invariant_of-self-in-Ok : goal.invariant_of-self-in-Ok
invariant_of-self-in-Ok c =
    run_grows (plan c.self.inside.accepted.now.job) c.self.inside.journal c.push.new.self c.self.inside.state c.apply.new.state c.args.event c.self.invariant c.in-Ok.ensures.ok c.in_ok-push.ensures.ok
