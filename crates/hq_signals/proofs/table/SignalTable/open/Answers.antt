use Rattle.std.proofs.Common.{List, nat_eq, ◌∙◌, ap, ◌++◌, ◌∷◌, []}
use Rattle.indexmap.proofs.CallerLemmas.{insert_entry-new}
use Rattle.hq_signals.specs.Table.{OpenSignal, opened}
use Rattle.hq_signals.specs.View.{signals_of}
use Rattle.hq_signals.proofs.Entries.{closed, signals_more}
use Rattle.hq_signals.proofs.table.SignalTable.open.Goals as goal

pub returns-clause-ok : goal.returns-clause-ok
returns-clause-ok c =
    let m = c.self.inside.signals in
    let absent = closed m.entries c.args.handle (rw c.self.view_is c.requires.closed) in
    ap signals_of (c.in_ok-insert.ensures.entries ∙ insert_entry-new nat_eq m c.args.handle _ absent)
    ∙ signals_more m.entries _ ∙ ap (λ (t : List OpenSignal). t ++ opened c.args.handle c.args.start ∷ []) c.self.view_is
