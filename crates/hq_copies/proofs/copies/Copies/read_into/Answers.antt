use Rattle.std.proofs.Common.{◌≡◌, ◌+◌, ◌<◌, ap, sym, subst, ◌∙◌, length, slice_index, get_or, arith}
use Rattle.std.specs.FinMap as finite
use Rattle.hq_model.specs.Machine.{value_or}
use Rattle.hq_copies.specs.Copies.{CopiesValue, held, lane_bytes}
use Rattle.hq_copies.proofs.Seen.{seen_at, all_seen}
use Rattle.hq_copies.proofs.Within.{level_at}
use Rattle.hq_copies.proofs.copies.Copies.read_into.Goals as goal

pub returns : goal.returns
returns c =
    let inside = c.self.inside in
    let old : CopiesValue = record { memory = inside.memory.items; agents = inside.agents.items; lanes = inside.lanes.items; lane_agents = inside.lane_agents.items } in
    let a = c.agent_of-agent.result in
    let number = c.number-from.result in
    let L : CopiesValue → Type 0 = λ t. c.args.lane < length t.lanes in
    let A : CopiesValue → Type 0 = λ t. a < length t.agents in
    let lane : c.index-2.result.now ≡ held old.lanes c.args.lane = level_at old.lanes c.args.lane c.index-2.result.now (subst L (sym c.self.view_is) c.requires.lane) c.index-2.ensures in
    let agent : c.index.result.now ≡ held old.agents a = level_at old.agents a c.index.result.now (subst A (sym c.self.view_is) c.agent_of-agent.ensures.there) c.index.ensures in
    let of : a ≡ slice_index old.lane_agents c.args.lane = c.agent_of-agent.ensures.agent ∙ sym (ap (λ (t : CopiesValue). slice_index t.lane_agents c.args.lane) c.self.view_is) in
    let count : length c.write_over-2.new.bytes ≡ length c.args.bytes.now = omega arith in
    let P : CopiesValue → Type 0 = λ t. c.write_over-2.new.bytes ≡ lane_bytes t c.args.lane c.args.byte (length c.write_over-2.new.bytes) in
    subst P c.self.view_is
    (all_seen old c.args.lane c.args.byte c.write_over-2.new.bytes (λ i l.
    seen_at old c.args.lane a c.args.byte number i (get_or c.write_over-2.new.bytes i 0) c.index-2.result.now c.index.result.now of lane agent c.number-from.ensures.number
    (c.write_over-2.ensures i (omega arith)
    ∙ ap (value_or (finite.get c.index-2.result.now (number + i))) (c.write_over.ensures i (omega arith)
    ∙ ap (value_or (finite.get c.index.result.now (number + i))) (c.copy_from.ensures i (omega arith) ∙ ap (λ t. get_or t (c.args.byte + i) 0) c.deref.ensures.value)))))
    ∙ ap (lane_bytes c.args.self.now c.args.lane c.args.byte) count
