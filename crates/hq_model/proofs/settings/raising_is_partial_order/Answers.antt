use Rattle.hq_model.proofs.settings.raising_is_partial_order.Goals as goal
use Rattle.hq_model.proofs.SettingsSteps as laws

pub returns : goal.returns
returns c = laws.raising_is_partial_order
