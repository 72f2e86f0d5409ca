use Rattle.hq_jobtext.proofs.laws.one_first_fault.Goals as goal
use Rattle.hq_jobtext.proofs.Texts as laws

pub returns : goal.returns
returns c = laws.one_first_fault
