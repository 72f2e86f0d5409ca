use Rattle.std.proofs.Common.{◌≡◌, ◌<◌, true, false, Some, List, length, set, ap, ap₂, sym, subst, ◌∙◌, length-set, slice_index}
use Rattle.std.specs.FinMap as finite
use Rattle.hq_model.specs.View.{Held, copies_of}
use Rattle.hq_copies.specs.Copies.{CopiesValue, IsDirty, a_copy, held, lane_pushed, with_copy}
use Rattle.hq_copies.specs.declared.fault.CopiesFault.TheVariants.{NotDirty}
use Rattle.hq_copies.proofs.Known.{lane_kept}
use Rattle.hq_copies.proofs.Within.{level_at, no_memory}
use Rattle.hq_copies.proofs.copies.Copies.push_lane.Goals as goal

pub returns-in_err-push-clause-faults : goal.returns-in_err-push-clause-faults
returns-in_err-push-clause-faults c =
    let A : CopiesValue → Type 0 = λ t. c.args.lane < length t.lanes in
    let P : CopiesValue → Type 0 = λ t. IsDirty (copies_of t.lanes c.args.lane c.args.byte) in
    let here : c.index.result.now ≡ held c.self.inside.lanes.items c.args.lane = level_at c.self.inside.lanes.items c.args.lane c.index.result.now (subst A (sym c.self.view_is) c.requires.0) c.index.ensures in
    let dirty : IsDirty (copies_of c.args.self.now.lanes c.args.lane c.args.byte) = subst P c.self.view_is (c.in-Some.value, sym (ap₂ finite.get here c.number-number.ensures.number) ∙ c.in-Some.ensures) in
    no_memory c.from_residual.result NotDirty (IsDirty (copies_of c.args.self.now.lanes c.args.lane c.args.byte)) dirty c.from_residual.ensures.1

pub returns-clause-ok : goal.returns-clause-ok
returns-clause-ok c =
    let is = c.self.inside in
    let lanes = is.lanes.items in
    let agents = is.agents.items in
    let lane = c.args.lane in
    let a = c.agent_of-agent.result in
    let value = c.in-Some.value in
    let A : CopiesValue → Type 0 = λ t. lane < length t.lanes in
    let B : CopiesValue → Type 0 = λ t. a < length t.agents in
    let P : CopiesValue → Type 0 = λ t. copies_of t.lanes lane c.args.byte ≡ Some (a_copy value true) in
    let there = subst A (sym c.self.view_is) c.requires.0 in
    let here : c.index.result.now ≡ held lanes lane = level_at lanes lane c.index.result.now there c.index.ensures in
    let level : c.index_mut-level.result.now ≡ held lanes lane = level_at lanes lane c.index_mut-level.result.now there c.index_mut-level.ensures.value in
    let below : c.index_mut-below.result.now ≡ held agents a = level_at agents a c.index_mut-below.result.now (subst B (sym c.self.view_is) c.agent_of-agent.ensures.there) c.index_mut-below.ensures.value in
    let number = c.number-number.ensures.number in
    let of : a ≡ slice_index is.lane_agents.items lane = c.agent_of-agent.ensures.agent ∙ sym (ap (λ (t : CopiesValue). slice_index t.lane_agents lane) c.self.view_is) in
    let with_both : List Held → List Held → CopiesValue = λ ls ag. record { memory = is.memory.items; agents = ag; lanes = ls; lane_agents = is.lane_agents.items } in (
      value,
      subst P c.self.view_is (sym (ap₂ finite.get here number) ∙ c.in-Some.ensures),
      ap₂ with_both
          (ap (set lanes lane) (c.in_ok-push.ensures.ok ∙ ap₂ (λ m k. finite.insert m k (a_copy value false)) level number))
          (ap (set agents a) (c.in_ok-push.ensures.below ∙ ap₂ (λ m k. finite.insert m k (a_copy value true)) below number) ∙ ap (λ k. with_copy agents k c.args.byte (a_copy value true)) of)
          ∙ ap (λ t. lane_pushed t lane c.args.byte value) c.self.view_is,
    )

pub invariant_of-self-2 : goal.invariant_of-self-2
invariant_of-self-2 c =
    let is = c.self.inside in
    lane_kept is.memory.items is.agents.items is.lanes.items is.lane_agents.items is.holding.bits.items is.marked.bits.items c.insert.new.self.bits.items c.insert-2.new.self.bits.items (set is.agents.items c.agent_of-agent.result c.push.new.below) c.args.lane c.push.new.self c.self.invariant (length-set is.agents.items c.agent_of-agent.result c.push.new.below)
    (record { bits = c.insert.ensures.has; len = c.insert.ensures.len }) (record { bits = c.insert-2.ensures.has; len = c.insert-2.ensures.len })
