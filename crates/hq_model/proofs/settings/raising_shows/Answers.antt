use Rattle.hq_model.proofs.settings.raising_shows.Goals as goal
use Rattle.hq_model.proofs.SettingsRaised as laws

pub returns : goal.returns
returns c = laws.raising_shows
