use Rattle.std.proofs.Common.{◌≡◌, ◌⊎◌, ◌<◌, true, false, length, slice_set, sym, ap, subst, ◌∙◌, arith}
use Rattle.std.specs.Prelude.{map}
use Rattle.hq_events.specs.Phases.{named}
use Rattle.hq_model.specs.Machine as machine
use Rattle.hq_model.specs.Machine.{is_launched}
use Rattle.hq_model.specs.View.{phases_of}
use Rattle.hq_machine.specs.State.{StateValue}
use Rattle.hq_machine.specs.declared.state.State.TheInside.{Inside}
use Rattle.hq_machine.specs.Launched.{AreLaunched}
use Rattle.hq_machine.proofs.Moves.{map_named}
use Rattle.hq_machine.proofs.Launched.{still_launched}
use Rattle.hq_machine.proofs.state.State.set_phase.Goals as goal
use Rattle.hq_machine.proofs.state.State.set_phase.Goals.{then-takes_back, else-takes_back}

pub invariant_of-self : goal.invariant_of-self
invariant_of-self c = elim c.if-takes_back.branch [
  | then-takes_back w ↦ (λ k d low. let none : length c.if-takes_back.self-inside.launched.items ≡ 0 = ap (λ (s : Inside). length s.launched.items) w.self-inside-is ∙ ap length w.clear.ensures.items in absurd (omega (arith, none, low)))
  | else-takes_back w ↦ (
      let phases = c.self.inside.phases.items in
      let room : c.args.packet < length (map named phases) = omega (arith, c.requires, ap (λ s. length s.phases) c.self.view_is) in
      let stays : (first : machine.Phase) → (is_launched (phases_of first (map named phases) c.args.packet) ≡ false) ⊎ (is_launched (named c.args.phase) ≡ true) =
      λ first. subst (λ (s : StateValue). (is_launched (phases_of first s.phases c.args.packet) ≡ false) ⊎ (is_launched (named c.args.phase) ≡ true)) (sym c.self.view_is) (c.takes_back.ensures w.if-takes_back.false first) in
      let kept = still_launched (map named phases) c.args.packet (named c.args.phase) c.self.inside.launched.items stays room c.self.invariant in
      subst (λ (s : Inside). AreLaunched (map named (slice_set s.phases.items c.args.packet c.args.phase)) s.launched.items) (sym w.self-inside-is)
      (rw (map_named phases c.args.packet c.args.phase) kept))
]
