use Rattle.hq_model.proofs.settings.heads_leave_conflicts.Goals as goal
use Rattle.hq_model.proofs.SettingsKept as laws

pub returns : goal.returns
returns c = laws.heads_leave_conflicts
