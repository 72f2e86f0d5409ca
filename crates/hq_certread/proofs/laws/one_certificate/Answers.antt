use Rattle.hq_certread.proofs.laws.one_certificate.Goals as goal
use Rattle.hq_certread.proofs.Wholes as laws

pub returns : goal.returns
returns c = laws.one_certificate
