use Rattle.hq_jobtext.proofs.Causes as laws
use Rattle.hq_jobtext.proofs.laws.packet_means.Goals as goal

pub returns : goal.returns
returns c = laws.packet_means
