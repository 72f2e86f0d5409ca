use Rattle.std.proofs.Common.{◌∙◌, sym}
use Rattle.hq_job.specs.Plan.{plan}
use Rattle.hq_machine.specs.View.{state_of}
use Rattle.hq_witness.specs.declared.origin.Origin.TheVariants as origin
use Rattle.hq_witness.proofs.Traces.{agent_there, agent_below}
use Rattle.hq_witness.proofs.trace.Trace.seen_by_agent.Goals as goal

pub returns-then-agent_holds : goal.returns-then-agent_holds
returns-then-agent_holds c o k =
    let job = plan c.args.job.now in
    agent_there job (state_of job c.args.state.now) o c.args.self.now c.args.agent c.get.result k c.requires.agent (sym (c.agent_holds.ensures job) ∙ c.if-agent_holds.true) (c.get.ensures origin.Start)

pub returns-else-agent_holds : goal.returns-else-agent_holds
returns-else-agent_holds c o k =
    let job = plan c.args.job.now in
    agent_below job (state_of job c.args.state.now) o c.args.self.now c.args.agent k (sym (c.agent_holds.ensures job) ∙ c.if-agent_holds.false)
