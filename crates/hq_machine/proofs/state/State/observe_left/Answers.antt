use Rattle.std.proofs.Common.{ℕ, arith}
use Rattle.hq_job.specs.Plan.{plan}
use Rattle.hq_model.specs.Machine.Event.{Observe}
use Rattle.hq_machine.proofs.WorkLeft.{each_more, observe_below}
use Rattle.hq_machine.specs.Enabled.{Enabled}
use Rattle.hq_machine.proofs.state.State.observe_left.Goals as goal

pub loop-slot-preserved : goal.loop-slot-preserved
loop-slot-preserved c = each_more (λ (k : ℕ). Enabled (plan c.args.job.now) c.args.self.now (Observe c.args.packet k) → ⊥) c.loop-slot.slot c.loop-slot.invariant c.in_default.ensures

pub returns : goal.returns
returns c = λ n e.
    let low = observe_below (plan c.args.job.now) c.args.self.now c.args.packet n e in
    let end = c.loop-slot-test.false in
    let count = c.slot_count-slot-end.ensures in
    c.loop-slot.invariant n (omega arith) e
