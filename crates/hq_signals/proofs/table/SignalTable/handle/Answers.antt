use Rattle.std.proofs.Common.{sym, ap, ◌∙◌}
use Rattle.std.specs.Map.Iter.{deref_pair}
use Rattle.std.specs.Option.{option_map}
use Rattle.hq_signals.proofs.Entries.{handle_read}
use Rattle.hq_signals.proofs.table.SignalTable.handle.Goals as goal

pub returns : goal.returns
returns c =
    rw (← c.self.view_is) (handle_read c.self.inside.signals.entries c.args.index _ (sym c.get_index.ensures.entry ∙ ap (option_map deref_pair) c.unwrap.ensures))
