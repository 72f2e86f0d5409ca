use Rattle.std.proofs.Common.{refl, ap, ◌∙◌}
use Rattle.hq_signals.specs.Table.{noted, changed_at, with_wait}
use Rattle.hq_signals.proofs.Entries.{entry_at, changed, noted_kept}
use Rattle.hq_signals.proofs.table.SignalTable.note_wait.Goals as goal

pub returns-clause-waited : goal.returns-clause-waited
returns-clause-waited c =
    let es = c.self.inside.signals.entries in
    let i = c.place_of-index.result in
    let at = entry_at es i c.args.handle _ (rw c.self.view_is c.place_of-index.ensures) c.pair_mut-entry.ensures.value in
    changed with_wait c.args.handle es i _ _ c.pair_mut-entry.ensures.unique at refl ∙ ap (changed_at c.args.handle with_wait) c.self.view_is

pub returns-clause-total : goal.returns-clause-total
returns-clause-total c =
    noted_kept c.self.inside.signals.entries c.place_of-index.result _ _ _ c.pair_mut-entry.ensures.value refl ∙ ap noted c.self.view_is
