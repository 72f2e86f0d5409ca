use Rattle.hq_model.proofs.settings.refused_stays_refused.Goals as goal
use Rattle.hq_model.proofs.SettingsRaised as laws

pub returns : goal.returns
returns c = laws.refused_stays_refused
