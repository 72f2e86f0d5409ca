use Rattle.hq_jobtext.proofs.Causes as laws
use Rattle.hq_jobtext.proofs.laws.byte_means.Goals as goal

pub returns : goal.returns
returns c = laws.byte_means
