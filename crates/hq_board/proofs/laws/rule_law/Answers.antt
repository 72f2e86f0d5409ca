use Rattle.hq_board.proofs.laws.rule_law.Goals as goal
use Rattle.hq_board.proofs.Sentences as laws

pub returns : goal.returns
returns c = laws.rule_law
