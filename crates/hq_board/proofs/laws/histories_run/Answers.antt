use Rattle.hq_board.proofs.laws.histories_run.Goals as goal
use Rattle.hq_board.proofs.Told as laws

pub returns : goal.returns
returns c = laws.histories_run
