use Rattle.std.proofs.Common.{ℕ, arith}
use Rattle.hq_job.specs.Plan.{plan}
use Rattle.hq_model.specs.Machine.Event.{PushAgent}
use Rattle.hq_machine.proofs.WorkLeft.{each_more, agent_below}
use Rattle.hq_machine.specs.WorkLeft.{NoneOf}
use Rattle.hq_machine.proofs.state.State.push_agent_left.Goals as goal

pub loop-agent-preserved : goal.loop-agent-preserved
loop-agent-preserved c = each_more (λ (k : ℕ). NoneOf (plan c.args.job.now) c.args.self.now (PushAgent k)) c.loop-agent.agent c.loop-agent.invariant c.in_default.ensures

pub returns : goal.returns
returns c = λ a b e.
    let low = agent_below (plan c.args.job.now) c.args.self.now a b e in
    let end = c.loop-agent-test.false in
    let count = c.agent_total-agent-end.ensures in
    c.loop-agent.invariant a (omega arith) b e
