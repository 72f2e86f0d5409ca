use Rattle.hq_jobtext.proofs.laws.faultless_where_job.Goals as goal
use Rattle.hq_jobtext.proofs.Texts as laws

pub returns : goal.returns
returns c = laws.faultless_where_job
