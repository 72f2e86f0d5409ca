use Rattle.hq_model.proofs.conflict.shown_is_before.Goals as goal
use Rattle.hq_model.proofs.Fences as laws

pub returns : goal.returns
returns c = laws.shown_is_before
