use Rattle.hq_certtext.proofs.laws.printed_is_read.Goals as goal
use Rattle.hq_certtext.proofs.Holds as laws

pub returns : goal.returns
returns c = laws.printed_is_read
