use Rattle.hq_signals.proofs.Entries.{apart}
use Rattle.hq_signals.proofs.table.SignalTable.len.Goals as goal

pub returns-clause-distinct : goal.returns-clause-distinct
returns-clause-distinct c = rw (← c.self.view_is) (apart c.self.inside.signals.entries c.len.ensures.unique)
