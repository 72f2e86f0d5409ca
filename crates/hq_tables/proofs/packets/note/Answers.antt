use Rattle.std.proofs.Common.{◌≡◌, ◌≢◌, ◌∙◌, sym, ap, subst, List, ℕ, ◌<◌}
use Rattle.std.specs.Prelude.{map, Contains, Any}
use Rattle.std.proofs.lemmas.List.Elements.{All-map}
use Rattle.hq_packet.specs.Parts.{completion_of}
use Rattle.hq_signals.specs.Table.{OpenSignal, handles}
use Rattle.hq_tables.specs.Tables.{IsUndeclared, deps_of, awaited, completed}
use Rattle.hq_tables.proofs.Notes.{handles-completed, noted_both, first_declared, any_later}
use Rattle.hq_tables.proofs.packets.note.Goals as goal

pub note_completion-requires-clause-declared : goal.note_completion-requires-clause-declared
note_completion-requires-clause-declared c = rw c.completion.ensures (first_declared (IsUndeclared c.args.signals.now) (completion_of c.args.packet.now) (deps_of c.args.packet.now) c.requires.declared)

pub note_dependencies-requires-clause-some : goal.note_dependencies-requires-clause-some
note_dependencies-requires-clause-some c = rw c.note_completion.ensures (All-map (λ (s : OpenSignal). 0 < s.handle) (completed c.completion.result) c.args.signals.now c.requires.some)

pub note_dependencies-requires-clause-declared : goal.note_dependencies-requires-clause-declared
note_dependencies-requires-clause-declared c =
    let same : handles c.note_completion.new.signals ≡ handles c.args.signals.now = ap handles c.note_completion.ensures ∙ handles-completed c.completion.result c.args.signals.now in
    let P : List ℕ → Type 0 = λ hs. ¬ Any (λ h. (h ≢ 0) × ¬ Contains hs h) (deps_of c.args.packet.now) in
    rw c.deps_of.ensures (subst P (sym same) (λ some. c.requires.declared (any_later (IsUndeclared c.args.signals.now) (completion_of c.args.packet.now) (deps_of c.args.packet.now) some)))

pub returns : goal.returns
returns c =
    c.note_dependencies.ensures ∙ ap (λ ds. map (awaited ds) c.note_completion.new.signals) c.deps_of.ensures
    ∙ ap (map (awaited (deps_of c.args.packet.now))) (c.note_completion.ensures ∙ ap (λ h. map (completed h) c.args.signals.now) c.completion.ensures)
    ∙ noted_both c.args.packet.now c.args.signals.now
