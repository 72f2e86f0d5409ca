use Rattle.std.proofs.Common.{◌≡◌, ◌∙◌, sym, ap, subst, List, ℕ, take, inl, inr}
use Rattle.std.specs.Prelude.{Contains, slice_index}
use Rattle.hq_signals.specs.Table.{handles}
use Rattle.hq_tables.specs.Tables.{IsUndeclared}
use Rattle.hq_tables.proofs.Notes.{awaited_none, open_of, any_at, handles-awaited, turn_waits, turn_null, waits_all, here}
use Rattle.hq_tables.proofs.packets.note_dependencies.Goals as goal

pub loop-dep-init : goal.loop-dep-init
loop-dep-init c = awaited_none c.args.signals.now

pub note_dependency-requires : goal.note_dependency-requires
note_dependency-requires c = λ some.
    let same : handles c.loop-dep.signals ≡ handles c.args.signals.now = ap handles c.loop-dep.invariant ∙ handles-awaited (take c.loop-dep.dep-index c.args.deps.now) c.args.signals.now in
    let P : List ℕ → Type 0 = λ hs. Contains hs (slice_index c.args.deps.now c.loop-dep.dep-index) in
    subst P (sym same) (open_of c.args.signals.now (slice_index c.args.deps.now c.loop-dep.dep-index) (λ u. c.requires.declared (any_at (IsUndeclared c.args.signals.now) c.args.deps.now c.loop-dep.dep-index (slice_index c.args.deps.now c.loop-dep.dep-index) c.loop-dep-test.true (here c.args.deps.now c.loop-dep.dep-index c.loop-dep-test.true) u)) some)

pub loop-dep-preserved : goal.loop-dep-preserved
loop-dep-preserved c = elim c.note_dependency.ensures [
  | inl h ↦ h.1 ∙ turn_null c.args.signals.now c.loop-dep.signals c.note_dependency.new.signals c.args.deps.now c.loop-dep.dep-index (slice_index c.args.deps.now c.loop-dep.dep-index) c.loop-dep-test.true (here c.args.deps.now c.loop-dep.dep-index c.loop-dep-test.true) c.loop-dep.invariant c.requires.some h.0
  | inr h ↦ turn_waits c.args.signals.now c.loop-dep.signals c.note_dependency.new.signals c.args.deps.now c.loop-dep.dep-index (slice_index c.args.deps.now c.loop-dep.dep-index) c.loop-dep-test.true (here c.args.deps.now c.loop-dep.dep-index c.loop-dep-test.true) c.loop-dep.invariant h
]

pub returns : goal.returns
returns c = waits_all c.args.signals.now c.loop-dep.signals c.args.deps.now c.loop-dep.dep-index c.loop-dep-test.false c.loop-dep.invariant
