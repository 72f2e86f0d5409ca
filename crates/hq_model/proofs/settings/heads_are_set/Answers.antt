use Rattle.hq_model.proofs.settings.heads_are_set.Goals as goal
use Rattle.hq_model.proofs.SettingsSteps as laws

pub returns : goal.returns
returns c = laws.heads_are_set
