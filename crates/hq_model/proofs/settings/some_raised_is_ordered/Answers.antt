use Rattle.hq_model.proofs.settings.some_raised_is_ordered.Goals as goal
use Rattle.hq_model.proofs.SettingsSteps as laws

pub returns : goal.returns
returns c = laws.some_raised_is_ordered
