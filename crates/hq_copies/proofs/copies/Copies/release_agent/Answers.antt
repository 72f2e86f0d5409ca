use Rattle.std.proofs.Common.{◌≡◌, ◌<◌, ℕ, List, length, drop, set, get_or, ap, sym, subst, ◌∙◌, arith}
use Rattle.std.specs.FinMap as finite
use Rattle.hq_copies.specs.Copies.{CopiesValue, held, cleaned, written, AgentReleased}
use Rattle.hq_copies.proofs.Within.{level_at, agent_done, lent}
use Rattle.hq_copies.proofs.copies.Copies.release_agent.Goals as goal

pub returns : goal.returns
returns c =
    let agents = c.self.inside.agents.items in
    let memory = c.self.inside.memory.items in
    let old : CopiesValue = record { memory = memory; agents = agents; lanes = c.self.inside.lanes.items; lane_agents = c.self.inside.lane_agents.items } in
    let A : CopiesValue → Type 0 = λ t. c.args.agent < length t.agents in
    let there : c.args.agent < length agents = subst A (sym c.self.view_is) c.requires in
    let level : c.index_mut-level.result.now ≡ held agents c.args.agent = level_at agents c.args.agent c.index_mut-level.result.now there c.index_mut-level.ensures.value in
    let new : CopiesValue = record old { memory = c.write_to.new.memory; agents = set agents c.args.agent c.mark_clean.new.self } in
    let P : CopiesValue → Type 0 = λ t. AgentReleased t c.args.agent new in
    let Q : List ℕ → Type 0 = λ bytes. AgentReleased c.args.self.now c.args.agent (record new { memory = bytes }) in
    let count : length c.write_to.new.memory ≡ length memory = c.write_to.auto.memory ∙ ap length c.deref_mut.ensures.value in
    let size : length c.deref_mut.result.now ≡ length memory = ap length c.deref_mut.ensures.value in
    subst Q (sym (lent c.self.inside.memory.len c.write_to.new.memory (drop (length c.write_to.new.memory) memory) (omega (arith, count, c.self.inside.memory.ok.0))))
    (subst P c.self.view_is
    (agent_done old c.args.agent c.write_to.new.memory c.mark_clean.new.self there count
    (λ b l.
    c.write_to.ensures b (omega (arith, size))
    ∙ ap (λ t. written (finite.get t b) (get_or c.deref_mut.result.now b 0)) level
    ∙ ap (λ t. written (finite.get (held agents c.args.agent) b) (get_or t b 0)) c.deref_mut.ensures.value)
    (λ b. c.mark_clean.ensures b ∙ ap (λ t. cleaned (finite.get t b)) level)))
