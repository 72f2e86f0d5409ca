use Rattle.std.proofs.Common.{◌≡◌, ◌<◌, List, ap, ap₂, sym, subst, ◌∙◌, length, set}
use Rattle.std.specs.FinMap as finite
use Rattle.hq_model.specs.View.{Held, copies_of}
use Rattle.hq_copies.specs.Copies.{CopiesValue, IsClean, held, agent_dropped}
use Rattle.hq_copies.specs.declared.fault.CopiesFault.TheVariants.{NotClean}
use Rattle.hq_copies.proofs.Within.{level_at, clean_at, no_memory}
use Rattle.hq_copies.proofs.copies.Copies.drop_agent.Goals as goal

pub returns-in_err-drop_clean-clause-faults : goal.returns-in_err-drop_clean-clause-faults
returns-in_err-drop_clean-clause-faults c =
    let A : CopiesValue → Type 0 = λ t. c.args.agent < length t.agents in
    let there : c.index_mut-below.result.now ≡ held c.self.inside.agents.items c.args.agent = level_at c.self.inside.agents.items c.args.agent c.index_mut-below.result.now (subst A (sym c.self.view_is) c.requires.0) c.index_mut-below.ensures.value in
    let P : CopiesValue → Type 0 = λ t. IsClean (copies_of t.agents c.args.agent c.args.byte) in
    let clean : IsClean (copies_of c.args.self.now.agents c.args.agent c.args.byte) = subst P c.self.view_is (clean_at c.self.inside.agents.items c.args.agent c.args.byte c.number-number.result c.index_mut-below.result.now there c.number-number.ensures.number (c.is_clean.ensures.0 c.if-not-is_clean.false)) in
    no_memory c.from_residual.result NotClean (IsClean (copies_of c.args.self.now.agents c.args.agent c.args.byte)) clean c.from_residual.ensures.1

pub returns-clause-ok : goal.returns-clause-ok
returns-clause-ok c =
    let A : CopiesValue → Type 0 = λ t. c.args.agent < length t.agents in
    let there : c.index_mut-below.result.now ≡ held c.self.inside.agents.items c.args.agent = level_at c.self.inside.agents.items c.args.agent c.index_mut-below.result.now (subst A (sym c.self.view_is) c.requires.0) c.index_mut-below.ensures.value in
    let P : CopiesValue → Type 0 = λ t. IsClean (copies_of t.agents c.args.agent c.args.byte) in
    let clean : IsClean (copies_of c.args.self.now.agents c.args.agent c.args.byte) = subst P c.self.view_is (clean_at c.self.inside.agents.items c.args.agent c.args.byte c.number-number.result c.index_mut-below.result.now there c.number-number.ensures.number (c.is_clean.ensures.0 c.if-not-is_clean.false)) in
    let dropped : c.drop_clean.new.self ≡ finite.remove (held c.self.inside.agents.items c.args.agent) c.args.byte = c.in_ok-drop_clean.ensures.ok ∙ ap₂ finite.remove there c.number-number.ensures.number in
    let with_agents : List Held → CopiesValue = λ t. record { memory = c.self.inside.memory.items; agents = t; lanes = c.self.inside.lanes.items; lane_agents = c.self.inside.lane_agents.items } in
    (clean, ap (λ t. with_agents (set c.self.inside.agents.items c.args.agent t)) dropped ∙ ap (λ t. agent_dropped t c.args.agent c.args.byte) c.self.view_is)
