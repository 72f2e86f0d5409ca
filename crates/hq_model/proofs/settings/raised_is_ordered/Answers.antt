use Rattle.hq_model.proofs.settings.raised_is_ordered.Goals as goal
use Rattle.hq_model.proofs.SettingsRaised as laws

pub returns : goal.returns
returns c = laws.raised_is_ordered
