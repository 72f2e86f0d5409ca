use Rattle.hq_model.proofs.certificate.certificates_order.Goals as goal
use Rattle.hq_model.proofs.Certificates as laws

pub returns : goal.returns
returns c = laws.certificates_order
