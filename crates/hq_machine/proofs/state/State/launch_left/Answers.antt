use Rattle.std.proofs.Common.{ℕ, arith}
use Rattle.hq_job.specs.Plan.{plan}
use Rattle.hq_model.specs.Machine.Event.{Launch}
use Rattle.hq_machine.proofs.WorkLeft.{each_more, launch_below}
use Rattle.hq_machine.specs.Enabled.{Enabled}
use Rattle.hq_machine.proofs.state.State.launch_left.Goals as goal

pub loop-queue-preserved : goal.loop-queue-preserved
loop-queue-preserved c = each_more (λ (k : ℕ). Enabled (plan c.args.job.now) c.args.self.now (Launch k) → ⊥) c.loop-queue.queue c.loop-queue.invariant c.in_default.ensures

pub returns : goal.returns
returns c = λ n e.
    let low = launch_below (plan c.args.job.now) c.args.self.now n c.valid.ensures.valid e in
    let end = c.loop-queue-test.false in
    let count = c.queue_total-queue-end.ensures in
    c.loop-queue.invariant n (omega arith) e
