use Rattle.std.proofs.Common.{◌≡◌, ◌≤◌, List, length, ap, sym, subst, ◌∙◌}
use Rattle.hq_model.specs.View.{Held}
use Rattle.hq_copies.specs.Copies.{CopiesValue, IsCopies, dirty_within}
use Rattle.hq_copies.specs.Known.{AreKnown}
use Rattle.hq_copies.proofs.Known.{kept_count, lent_kept}
use Rattle.hq_copies.proofs.copies.Copies.drop_clean_bytes.Goals as goal

pub invariant_of-self : goal.invariant_of-self
invariant_of-self c =
    let is = c.self.inside in
    let lanes = is.lanes.items in
    let new = c.keep_dirty.new.lanes in
    let within : c.args.end ≤ length lanes = subst (λ (t : CopiesValue). c.args.end ≤ length t.lanes) (sym c.self.view_is) c.requires.lanes in
    let e : new ≡ dirty_within c.args.start c.args.end lanes = c.keep_dirty.ensures.lanes ∙ ap (dirty_within c.args.start c.args.end) c.deref_mut.ensures.value in
    let P : List Held → Type 0 = λ ls. IsCopies is.memory.items is.agents.items ls is.lane_agents.items c.keep_dirty.new.holding.bits.items is.marked.bits.items in
    let Q : List Held → Type 0 = λ ls. AreKnown ls c.keep_dirty.new.holding.bits.items is.marked.bits.items in
    let kept = lent_kept is.lanes.len lanes new c.args.start c.args.end is.lanes.ok.0 c.requires.rising within e in
    subst P (sym kept) (record {
      bytes = c.self.invariant.bytes;
      lanes_agree = kept_count lanes c.args.start c.args.end c.requires.rising within ∙ c.self.invariant.lanes_agree;
      agents_there = c.self.invariant.agents_there;
      known = subst Q e c.keep_dirty.ensures.known;
    })

pub returns : goal.returns
returns c =
    let is = c.self.inside in
    let lanes = is.lanes.items in
    let within : c.args.end ≤ length lanes = subst (λ (t : CopiesValue). c.args.end ≤ length t.lanes) (sym c.self.view_is) c.requires.lanes in
    let e : c.keep_dirty.new.lanes ≡ dirty_within c.args.start c.args.end lanes = c.keep_dirty.ensures.lanes ∙ ap (dirty_within c.args.start c.args.end) c.deref_mut.ensures.value in
    let with_lanes : List Held → CopiesValue = λ ls. record { memory = is.memory.items; agents = is.agents.items; lanes = ls; lane_agents = is.lane_agents.items } in
    ap with_lanes (lent_kept is.lanes.len lanes c.keep_dirty.new.lanes c.args.start c.args.end is.lanes.ok.0 c.requires.rising within e)
    ∙ ap (λ (t : CopiesValue). record t { lanes = dirty_within c.args.start c.args.end t.lanes }) c.self.view_is
