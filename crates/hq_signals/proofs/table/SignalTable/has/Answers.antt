use Rattle.hq_signals.proofs.Entries.{tells_open}
use Rattle.hq_signals.proofs.table.SignalTable.has.Goals as goal

pub returns : goal.returns
returns c = rw (← c.self.view_is) (tells_open c.self.inside.signals.entries c.args.handle c.contains_key.result c.contains_key.ensures)
