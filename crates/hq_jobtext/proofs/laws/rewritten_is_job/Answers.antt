use Rattle.hq_jobtext.proofs.laws.rewritten_is_job.Goals as goal
use Rattle.hq_jobtext.proofs.RewrittenJob.{rewritten_is_job}

pub returns : goal.returns
returns c = rewritten_is_job
