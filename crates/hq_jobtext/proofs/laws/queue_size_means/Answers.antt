use Rattle.hq_jobtext.proofs.Causes as laws
use Rattle.hq_jobtext.proofs.laws.queue_size_means.Goals as goal

pub returns : goal.returns
returns c = laws.queue_size_means
