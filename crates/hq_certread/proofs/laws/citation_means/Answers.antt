use Rattle.hq_certread.proofs.laws.citation_means.Goals as goal
use Rattle.hq_certread.proofs.Spelled as laws

pub returns : goal.returns
returns c = laws.citation_means
