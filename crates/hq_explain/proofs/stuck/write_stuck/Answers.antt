use Rattle.hq_job.specs.Plan.{plan}
use Rattle.hq_graph.proofs.Joining.{each_more}
use Rattle.hq_explain.specs.Explained.{StuckPart}
use Rattle.hq_explain.proofs.stuck.write_stuck.Goals as goal

pub loop-r-preserved : goal.loop-r-preserved
loop-r-preserved g c =
    let job = c.args.job.now in
    each_more (g.W.Write.contents c.args.writer.now) (g.W.Write.contents c.loop-r.writer) (g.W.Write.contents c.write_if.new.writer) (StuckPart job (plan job)) c.loop-r.r c.loop-r.invariant c.in_ok-write_if.ensures
