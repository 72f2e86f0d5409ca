use Rattle.std.proofs.Common.{◌≡◌, ◌<◌, List, refl, ap, ap₂, sym, subst, ◌∙◌, length, set}
use Rattle.std.specs.FinMap as finite
use Rattle.hq_model.specs.View.{Held, copies_of}
use Rattle.hq_copies.specs.Copies.{CopiesValue, IsClean, held, lane_dropped}
use Rattle.hq_copies.proofs.Known.{lane_kept}
use Rattle.hq_copies.specs.declared.fault.CopiesFault.TheVariants.{NotClean}
use Rattle.hq_copies.proofs.Within.{level_at, clean_at, no_memory}
use Rattle.hq_copies.proofs.copies.Copies.drop_lane.Goals as goal

pub returns-in_err-drop_clean-clause-faults : goal.returns-in_err-drop_clean-clause-faults
returns-in_err-drop_clean-clause-faults c =
    let A : CopiesValue → Type 0 = λ t. c.args.lane < length t.lanes in
    let there : c.index_mut-level.result.now ≡ held c.self.inside.lanes.items c.args.lane = level_at c.self.inside.lanes.items c.args.lane c.index_mut-level.result.now (subst A (sym c.self.view_is) c.requires.0) c.index_mut-level.ensures.value in
    let P : CopiesValue → Type 0 = λ t. IsClean (copies_of t.lanes c.args.lane c.args.byte) in
    let clean : IsClean (copies_of c.args.self.now.lanes c.args.lane c.args.byte) = subst P c.self.view_is (clean_at c.self.inside.lanes.items c.args.lane c.args.byte c.number-number.result c.index_mut-level.result.now there c.number-number.ensures.number (c.is_clean.ensures.0 c.if-not-is_clean.false)) in
    no_memory c.from_residual.result NotClean (IsClean (copies_of c.args.self.now.lanes c.args.lane c.args.byte)) clean c.from_residual.ensures.1

pub returns-clause-ok : goal.returns-clause-ok
returns-clause-ok c =
    let A : CopiesValue → Type 0 = λ t. c.args.lane < length t.lanes in
    let there : c.index_mut-level.result.now ≡ held c.self.inside.lanes.items c.args.lane = level_at c.self.inside.lanes.items c.args.lane c.index_mut-level.result.now (subst A (sym c.self.view_is) c.requires.0) c.index_mut-level.ensures.value in
    let P : CopiesValue → Type 0 = λ t. IsClean (copies_of t.lanes c.args.lane c.args.byte) in
    let clean : IsClean (copies_of c.args.self.now.lanes c.args.lane c.args.byte) = subst P c.self.view_is (clean_at c.self.inside.lanes.items c.args.lane c.args.byte c.number-number.result c.index_mut-level.result.now there c.number-number.ensures.number (c.is_clean.ensures.0 c.if-not-is_clean.false)) in
    let dropped : c.drop_clean.new.self ≡ finite.remove (held c.self.inside.lanes.items c.args.lane) c.args.byte = c.in_ok-drop_clean.ensures.ok ∙ ap₂ finite.remove there c.number-number.ensures.number in
    let with_lanes : List Held → CopiesValue = λ t. record { memory = c.self.inside.memory.items; agents = c.self.inside.agents.items; lanes = t; lane_agents = c.self.inside.lane_agents.items } in
    (clean, ap (λ t. with_lanes (set c.self.inside.lanes.items c.args.lane t)) dropped ∙ ap (λ t. lane_dropped t c.args.lane c.args.byte) c.self.view_is)

pub invariant_of-self-2 : goal.invariant_of-self-2
invariant_of-self-2 c =
    let is = c.self.inside in
    lane_kept is.memory.items is.agents.items is.lanes.items is.lane_agents.items is.holding.bits.items is.marked.bits.items c.insert.new.self.bits.items c.insert-2.new.self.bits.items is.agents.items c.args.lane c.drop_clean.new.self c.self.invariant refl
    (record { bits = c.insert.ensures.has; len = c.insert.ensures.len }) (record { bits = c.insert-2.ensures.has; len = c.insert-2.ensures.len })
