use Rattle.hq_chart.proofs.Runs as laws
use Rattle.hq_chart.proofs.laws.rows_tell_of_runs.Goals as goal

pub returns : goal.returns
returns c = laws.rows_tell_of_runs
