use Rattle.hq_certread.proofs.laws.one_first_fault.Goals as goal
use Rattle.hq_certread.proofs.Wholes as laws

pub returns : goal.returns
returns c = laws.one_first_fault
