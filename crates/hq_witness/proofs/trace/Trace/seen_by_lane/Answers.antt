use Rattle.std.proofs.Common.{◌∙◌, sym}
use Rattle.hq_job.specs.Plan.{plan}
use Rattle.hq_machine.specs.View.{state_of}
use Rattle.hq_witness.specs.declared.origin.Origin.TheVariants as origin
use Rattle.hq_witness.proofs.Traces.{lane_there, lane_below}
use Rattle.hq_witness.proofs.trace.Trace.seen_by_lane.Goals as goal

pub returns-then-lane_holds : goal.returns-then-lane_holds
returns-then-lane_holds c o k =
    let job = plan c.args.job.now in
    lane_there job (state_of job c.args.state.now) o c.args.self.now c.args.packet c.get.result k c.requires.packet (sym (c.lane_holds.ensures job) ∙ c.if-lane_holds.true) (c.get.ensures origin.Start)

pub returns-else-lane_holds : goal.returns-else-lane_holds
returns-else-lane_holds c o k =
    let job = plan c.args.job.now in
    lane_below job (state_of job c.args.state.now) o c.args.self.now c.args.packet c.agent_of.result c.seen_by_agent.result c.agent_of.ensures (sym (c.lane_holds.ensures job) ∙ c.if-lane_holds.false) (c.seen_by_agent.ensures o k)
