use Rattle.hq_audit.proofs.Certifying as laws
use Rattle.hq_audit.proofs.laws.ordered_is_not_refused.Goals as goal

pub returns : goal.returns
returns c = laws.ordered_is_not_refused
