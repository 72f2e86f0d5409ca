use Rattle.hq_job.specs.Plan.{plan}
use Rattle.hq_graph.specs.Graph.{Each, Wrote}
use Rattle.hq_explain.specs.Explained.{StuckPart}
use Rattle.hq_explain.proofs.stuck.write_stuck.Given as goal

abbrev pub invariant-loop-r : goal.invariant-loop-r
invariant-loop-r g l = Wrote (g.W.Write.contents l.initial.writer) (g.W.Write.contents l.writer) (Each (StuckPart l.job (plan l.job)) l.r)
