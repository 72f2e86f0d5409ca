use Rattle.std.proofs.Common.{◌≡◌, ℕ, ◌<◌, ◌≤◌, ap, sym, subst, ◌∙◌, true, false, IsTrue, ◌↔◌, length}
use Rattle.std.proofs.lemmas.Bool.{true≢false}
use Rattle.hq_packet.specs.declared.packet.Scope.TheVariants as scope
use Rattle.hq_packet.specs.Scopes.{reaches}
use Rattle.hq_model.specs.Machine.{is_dirty}
use Rattle.hq_model.specs.View.{copies_of}
use Rattle.hq_copies.specs.Copies.{CopiesValue, IsReleased}
use Rattle.hq_copies.proofs.Within.{level_at, released_by}
use Rattle.hq_copies.proofs.copies.Copies.is_released.Goals as goal
use Rattle.hq_copies.proofs.copies.Copies.is_released.Goals.{After-has_no_dirty, else-reaches-via-then-reaches+else-not-have_no_dirty, else-reaches-via-else-reaches}

-- no lane that the fence reaches is dirty
lanes : (c : After-has_no_dirty) → reaches c.args.scope scope.Agent ≡ true → (k b : ℕ) → c.args.lanes.start ≤ k → k < c.args.lanes.end → is_dirty (copies_of c.self.inside.lanes.items k b) ≡ false
lanes c far k b l h = elim c.else-reaches.branch [
  | else-reaches-via-then-reaches+else-not-have_no_dirty w ↦ ap (λ t. is_dirty (copies_of t k b)) (sym w.deref.ensures.value) ∙ w.have_no_dirty.ensures.0 w.if-not-have_no_dirty.false k b l h
  | else-reaches-via-else-reaches w ↦ absurd (true≢false (sym far ∙ sym c.reaches.ensures ∙ w.if-reaches.false))
]

pub returns-else-not-reaches : goal.returns-else-not-reaches
returns-else-not-reaches c =
    let P : CopiesValue → Type 0 = λ t. IsTrue c.has_no_dirty.result ↔ IsReleased t c.args.lanes.start c.args.lanes.end c.args.agent c.args.scope in
    let A : CopiesValue → Type 0 = λ t. c.args.agent < length t.agents in
    let l : c.args.agent < length c.self.inside.agents.items = subst A (sym c.self.view_is) c.requires.agent in
    subst P c.self.view_is
    (released_by (record { memory = c.self.inside.memory.items; agents = c.self.inside.agents.items; lanes = c.self.inside.lanes.items; lane_agents = c.self.inside.lane_agents.items }) c.args.lanes.start c.args.lanes.end c.args.agent c.args.scope c.has_no_dirty.result c.index.result.now
    (lanes c) (level_at c.self.inside.agents.items c.args.agent c.index.result.now l c.index.ensures) c.has_no_dirty.ensures (sym c.reaches-2.ensures ∙ c.if-not-reaches.false))
