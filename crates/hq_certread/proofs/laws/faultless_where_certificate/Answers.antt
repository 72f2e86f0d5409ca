use Rattle.hq_certread.proofs.laws.faultless_where_certificate.Goals as goal
use Rattle.hq_certread.proofs.Wholes as laws

pub returns : goal.returns
returns c = laws.faultless
