use Rattle.hq_timeline.proofs.laws.one_first_fault.Goals as goal
use Rattle.hq_timeline.proofs.Faults as laws

pub returns : goal.returns
returns c = laws.one_first_fault
