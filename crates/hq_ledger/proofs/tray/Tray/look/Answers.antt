use Rattle.std.proofs.Common.{◌≡◌, ◌<◌, length, sym, ap, ◌∙◌, subst}
use Rattle.std.specs.Prelude.{slice_index_or, IfSome, Some}
use Rattle.std.specs.Option.{option_map}
use Rattle.std.specs.Arc.{arc_value}
use Rattle.std.proofs.lemmas.List.{length-map}
use Rattle.once_cell.specs.Once.{cell_name}
use Rattle.hq_ledger.specs.Cells.{left_of}
use Rattle.hq_ledger.proofs.Notes.{notes_set, note_of_cell, learned_note, below_note, at_note}
use Rattle.hq_ledger.proofs.tray.Tray.look.Goals as goal

pub home_of-requires-clause-cell : goal.home_of-requires-clause-cell
home_of-requires-clause-cell c =
    let notes = c.self.inside.notes.items in
    let cells = (arc_value c.self.inside.cells).items in
    let low = subst (λ n. c.args.number < n) (length-map notes (λ n. option_map left_of n.known)) (subst (λ v. c.args.number < length v.known) (sym c.self.view_is) c.requires) in
    ap (λ n. n.cell) c.index_mut.ensures.value
    ∙ note_of_cell cells notes c.args.number c.index_mut.result.now c.index.result.now c.self.invariant.names low
    ∙ sym (ap cell_name (c.index.ensures ∙ ap (λ v. slice_index_or v.items c.args.number c.index.result.now) c.deref.ensures))

pub invariant_of-self : goal.invariant_of-self
invariant_of-self c =
    notes_set c.self.inside.packets (arc_value c.self.inside.cells).items c.self.inside.notes.items c.args.number c.home_of.new.note c.index_mut.result.now
    c.self.invariant (c.home_of.ensures.cell ∙ ap (λ n. n.cell) c.index_mut.ensures.value)

pub returns-clause-learned : goal.returns-clause-learned
returns-clause-learned c =
    let notes = c.self.inside.notes.items in
    let low = subst (λ n. c.args.number < n) (length-map notes (λ n. option_map left_of n.known)) (subst (λ v. c.args.number < length v.known) (sym c.self.view_is) c.requires) in
    rw (← c.self.view_is) (learned_note notes c.args.number c.home_of.new.note c.index_mut.result.now low
    (subst (λ n. IfSome n.known (λ held. c.home_of.new.note.known ≡ Some held)) c.index_mut.ensures.value c.home_of.ensures.kept))

pub returns-clause-before : goal.returns-clause-before
returns-clause-before c = rw (← c.self.view_is) (below_note c.self.inside.notes.items c.args.number c.home_of.new.note)

pub returns-clause-found : goal.returns-clause-found
returns-clause-found c =
    let notes = c.self.inside.notes.items in
    let low = subst (λ n. c.args.number < n) (length-map notes (λ n. option_map left_of n.known)) (subst (λ v. c.args.number < length v.known) (sym c.self.view_is) c.requires) in
    rw (at_note notes c.args.number c.home_of.new.note low) c.home_of.ensures.found
