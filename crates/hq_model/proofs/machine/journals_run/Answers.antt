use Rattle.hq_model.proofs.machine.journals_run.Goals as goal
use Rattle.hq_model.proofs.Journals as laws

pub returns : goal.returns
returns c = laws.journals_run
