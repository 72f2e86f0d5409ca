use Rattle.hq_job.proofs.laws.other_heads.Goals as goal
use Rattle.hq_job.proofs.AllHeads.{other_heads}

pub returns : goal.returns
returns c = other_heads
