use Rattle.std.proofs.Common.{ℕ, arith}
use Rattle.hq_job.specs.Plan.{plan}
use Rattle.hq_model.specs.Machine.Event.{Read}
use Rattle.hq_machine.proofs.WorkLeft.{each_more, read_below}
use Rattle.hq_machine.specs.Enabled.{Enabled}
use Rattle.hq_machine.proofs.state.State.read_left.Goals as goal

pub loop-entry-preserved : goal.loop-entry-preserved
loop-entry-preserved c = each_more (λ (k : ℕ). Enabled (plan c.args.job.now) c.args.self.now (Read c.args.packet k) → ⊥) c.loop-entry.entry c.loop-entry.invariant c.in_default.ensures

pub returns : goal.returns
returns c = λ n e.
    let low = read_below (plan c.args.job.now) c.args.self.now c.args.packet n e in
    let end = c.loop-entry-test.false in
    let count = c.read_total-entry-end.ensures in
    c.loop-entry.invariant n (omega arith) e
