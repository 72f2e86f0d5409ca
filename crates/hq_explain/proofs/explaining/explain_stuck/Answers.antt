use Rattle.hq_job.specs.Plan.{plan}
use Rattle.hq_explain.proofs.Whole.{stuck_explained}
use Rattle.hq_explain.proofs.explaining.explain_stuck.Goals as goal

pub returns-clause-explained : goal.returns-clause-explained
returns-clause-explained g c =
    stuck_explained (g.W.Write.contents c.args.writer.now) (g.W.Write.contents c.write_stuck.new.writer) c.args.job.now (plan c.args.job.now) c.args.which (c.requires.tells.some c.requires.some) c.in_ok-write_stuck.ensures
