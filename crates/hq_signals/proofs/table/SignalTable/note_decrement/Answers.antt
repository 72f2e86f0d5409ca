use Rattle.std.proofs.Common.{◌+◌, refl, ap, ◌∙◌, arith}
use Rattle.hq_signals.specs.Table.{noted, changed_at, with_decrementer}
use Rattle.hq_signals.proofs.Entries.{entry_at, changed, noted_more, noted_at_most}
use Rattle.hq_signals.proofs.table.SignalTable.note_decrement.Goals as goal

pub overflow_add-entry : goal.overflow_add-entry
overflow_add-entry c =
    let small = noted_at_most c.self.inside.signals.entries c.place_of-index.result _ _ c.pair_mut-entry.ensures.value in
    let whole = ap noted c.self.view_is in
    omega arith

pub returns-clause-counted : goal.returns-clause-counted
returns-clause-counted c =
    let es = c.self.inside.signals.entries in
    let i = c.place_of-index.result in
    let at = entry_at es i c.args.handle _ (rw c.self.view_is c.place_of-index.ensures) c.pair_mut-entry.ensures.value in
    changed with_decrementer c.args.handle es i _ _ c.pair_mut-entry.ensures.unique at refl ∙ ap (changed_at c.args.handle with_decrementer) c.self.view_is

pub returns-clause-total : goal.returns-clause-total
returns-clause-total c =
    noted_more c.self.inside.signals.entries c.place_of-index.result _ 1 _ _ c.pair_mut-entry.ensures.value refl ∙ ap (λ t. noted t + 1) c.self.view_is
