use Rattle.hq_job.proofs.laws.own_heads.Goals as goal
use Rattle.hq_job.proofs.AllHeads.{own_heads}

pub returns : goal.returns
returns c = own_heads
