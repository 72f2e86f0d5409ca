use Rattle.hq_model.proofs.settings.lowest_is_lowest.Goals as goal
use Rattle.hq_model.proofs.SettingsSteps as laws

pub returns : goal.returns
returns c = laws.lowest_is_lowest
