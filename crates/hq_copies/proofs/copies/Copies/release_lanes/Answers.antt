use Rattle.std.proofs.Common.{◌≡◌, ◌<◌, ◌-◌, All, List, length, drop, set, ap, sym, subst, ◌∙◌, arith, length-set, refl}
use Rattle.std.specs.FinMap as finite
use Rattle.hq_model.specs.View.{Held}
use Rattle.hq_copies.specs.Copies.{CopiesValue, IsCopies, held, after_pushes, LanesReleased}
use Rattle.hq_copies.proofs.Known.{holding_cleaned, same_room}
use Rattle.hq_copies.proofs.Within.{level_at, lanes_done, lent}
use Rattle.hq_copies.proofs.copies.Copies.release_lanes.Goals as goal

pub invariant_of-self : goal.invariant_of-self
invariant_of-self c =
    let is = c.self.inside in
    let count : length c.mark_clean.new.lanes ≡ length is.lanes.items = c.mark_clean.auto.lanes ∙ ap length c.deref_mut.ensures.value in
    let whole = lent is.lanes.len c.mark_clean.new.lanes (drop (length c.mark_clean.new.lanes) is.lanes.items) (omega (arith, count, is.lanes.ok.0)) in
    let lanes = is.lanes.items in
    let new = c.mark_clean.new.lanes in
    let agents = set is.agents.items c.args.agent c.push_each.new.below in
    let P : List Held → Type 0 = λ ls. IsCopies is.memory.items agents ls is.lane_agents.items is.holding.bits.items c.mark_clean.new.marked.bits.items in
    subst P (sym whole) (record {
      bytes = c.self.invariant.bytes;
      lanes_agree = count ∙ c.self.invariant.lanes_agree;
      agents_there = subst (λ n. All (λ a. a < n) is.lane_agents.items) (sym (length-set is.agents.items c.args.agent c.push_each.new.below)) c.self.invariant.agents_there;
      known = record {
        held = holding_cleaned lanes new is.holding.bits.items c.args.lanes.start c.args.lanes.end c.self.invariant.known.held (rw c.deref_mut.ensures.value at c.mark_clean.ensures.inside) (rw c.deref_mut.ensures.value at c.mark_clean.ensures.outside);
        dirty = c.mark_clean.ensures.marked;
        holding_room = same_room (length lanes) (length new) is.holding.bits.items is.holding.bits.items count refl c.self.invariant.known.holding_room;
        marked_room = c.mark_clean.ensures.room;
      };
    })

pub returns-clause-ok : goal.returns-clause-ok
returns-clause-ok c =
    let is = c.self.inside in
    let count : length c.mark_clean.new.lanes ≡ length is.lanes.items = c.mark_clean.auto.lanes ∙ ap length c.deref_mut.ensures.value in
    let whole = lent is.lanes.len c.mark_clean.new.lanes (drop (length c.mark_clean.new.lanes) is.lanes.items) (omega (arith, count, is.lanes.ok.0)) in
    let agents = is.agents.items in
    let lanes = is.lanes.items in
    let old : CopiesValue = record { memory = is.memory.items; agents = agents; lanes = lanes; lane_agents = is.lane_agents.items } in
    let A : CopiesValue → Type 0 = λ t. c.args.agent < length t.agents in
    let there : c.args.agent < length agents = subst A (sym c.self.view_is) c.requires.agent in
    let copied : c.in_ok-below.below ≡ held agents c.args.agent = c.in_ok-below.ensures ∙ level_at agents c.args.agent c.index.result.now there c.index.ensures in
    let new : CopiesValue = record { memory = is.memory.items; agents = set agents c.args.agent c.push_each.new.below; lanes = c.mark_clean.new.lanes; lane_agents = is.lane_agents.items } in
    let P : CopiesValue → Type 0 = λ t. LanesReleased t c.args.lanes.start c.args.lanes.end c.args.agent new in
    let Q : List Held → Type 0 = λ ls. LanesReleased c.args.self.now c.args.lanes.start c.args.lanes.end c.args.agent (record new { lanes = ls }) in
    let many = c.args.lanes.end - c.args.lanes.start in
    subst Q (sym whole)
    (subst P c.self.view_is
    (lanes_done old c.args.lanes.start c.args.lanes.end c.args.agent c.mark_clean.new.lanes c.push_each.new.below there count
    (rw c.deref_mut.ensures.value at c.mark_clean.ensures.inside) (rw c.deref_mut.ensures.value at c.mark_clean.ensures.outside)
    (λ b. c.in_ok-push_each.ensures b
    ∙ ap (λ t. after_pushes t c.args.lanes.start many b (finite.get c.in_ok-below.below b)) c.deref.ensures.value
    ∙ ap (λ t. after_pushes lanes c.args.lanes.start many b (finite.get t b)) copied)))
