use Rattle.hq_jobtext.proofs.laws.one_rewritten.Goals as goal
use Rattle.hq_jobtext.proofs.RewrittenOnce.{one_rewritten}

pub returns : goal.returns
returns c = one_rewritten
