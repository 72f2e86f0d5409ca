use Rattle.hq_model.proofs.conflict.unreleased_is_not_shown.Goals as goal
use Rattle.hq_model.proofs.Fences as laws

pub returns : goal.returns
returns c = laws.unreleased_is_not_shown
