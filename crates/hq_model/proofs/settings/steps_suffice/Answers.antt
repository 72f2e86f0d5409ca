use Rattle.hq_model.proofs.settings.steps_suffice.Goals as goal
use Rattle.hq_model.proofs.SettingsSteps as laws

pub returns : goal.returns
returns c = laws.steps_suffice
