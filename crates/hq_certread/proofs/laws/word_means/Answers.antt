use Rattle.hq_certread.proofs.laws.word_means.Goals as goal
use Rattle.hq_certread.proofs.Spelled as laws

pub returns : goal.returns
returns c = laws.word_means
