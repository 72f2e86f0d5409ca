use Rattle.hq_timeline.proofs.laws.read_back.Goals as goal
use Rattle.hq_timeline.proofs.Again as laws

pub returns : goal.returns
returns c = laws.printed_is_text
