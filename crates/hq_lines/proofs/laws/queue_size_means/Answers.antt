use Rattle.hq_lines.proofs.Means as laws
use Rattle.hq_lines.proofs.laws.queue_size_means.Goals as goal

pub returns : goal.returns
returns c = laws.queue_size_means
