use Rattle.hq_job.proofs.laws.last_heads.Goals as goal
use Rattle.hq_job.proofs.AllHeads.{last_heads}

pub returns : goal.returns
returns c = last_heads
