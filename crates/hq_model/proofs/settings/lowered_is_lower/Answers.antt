use Rattle.hq_model.proofs.settings.lowered_is_lower.Goals as goal
use Rattle.hq_model.proofs.SettingsSteps as laws

pub returns : goal.returns
returns c = laws.lowered_is_lower
