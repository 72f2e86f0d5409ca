use Rattle.hq_signals.proofs.Entries.{open_there}
use Rattle.hq_signals.proofs.table.SignalTable.place_of.Goals as goal

pub unwrap-requires : goal.unwrap-requires
unwrap-requires c = open_there c.index_of.result c.index_of.ensures.absent c.requires

pub returns : goal.returns
returns c = (c.index_of.ensures.place c.unwrap.result).0 c.unwrap.ensures
