use Rattle.hq_signals.proofs.Entries.{tells_open, tells_closed, place}
use Rattle.hq_signals.proofs.table.SignalTable.index_of.Goals as goal

pub returns-clause-place : goal.returns-clause-place
returns-clause-place c =
    let e = c.get_index_of.ensures in
    let es = c.self.inside.signals.entries in
    rw (← c.self.view_is) (place es c.args.handle c.get_index_of.result e.index e.unique (tells_open es c.args.handle _ e.found))

pub returns-clause-absent : goal.returns-clause-absent
returns-clause-absent c =
    let e = c.get_index_of.ensures in
    let es = c.self.inside.signals.entries in
    rw (← c.self.view_is) (tells_closed es c.args.handle c.get_index_of.result (tells_open es c.args.handle _ e.found))
