use Rattle.std.proofs.Common.{◌∙◌, sym}
use Rattle.hq_tables.proofs.Numbers.{signal_number_is}
use Rattle.hq_tables.proofs.tables.Tables.signal_number.Goals as goal

pub returns-in-Some : goal.returns-in-Some
returns-in-Some c = sym c.in-Some.is ∙ signal_number_is c.args.self.now.signals c.args.handle c.index_of.result c.if-handle-eq0.false c.index_of.ensures.place c.index_of.ensures.absent

pub returns-in-None : goal.returns-in-None
returns-in-None c = sym c.in-None.is ∙ signal_number_is c.args.self.now.signals c.args.handle c.index_of.result c.if-handle-eq0.false c.index_of.ensures.place c.index_of.ensures.absent
