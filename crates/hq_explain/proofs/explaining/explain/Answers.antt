use Rattle.hq_job.specs.Plan.{plan}
use Rattle.hq_explain.proofs.Whole.{broken_err}
use Rattle.hq_explain.proofs.explaining.explain.Goals as goal

pub returns-in_err-stuck-clause-broken : goal.returns-in_err-stuck-clause-broken
returns-in_err-stuck-clause-broken g c = broken_err c.from_residual.result (g.W.Write.contents c.args.writer.now) c.args.job.now (plan c.args.job.now)
