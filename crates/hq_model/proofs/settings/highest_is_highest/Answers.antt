use Rattle.hq_model.proofs.settings.highest_is_highest.Goals as goal
use Rattle.hq_model.proofs.SettingsSteps as laws

pub returns : goal.returns
returns c = laws.highest_is_highest
