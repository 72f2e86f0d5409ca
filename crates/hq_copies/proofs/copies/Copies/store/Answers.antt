use Rattle.std.proofs.Common.{refl}
use Rattle.hq_copies.proofs.Known.{lane_kept}
use Rattle.hq_copies.proofs.copies.Copies.store.Goals as goal

pub invariant_of-self-2 : goal.invariant_of-self-2
invariant_of-self-2 c =
    let is = c.self.inside in
    lane_kept is.memory.items is.agents.items is.lanes.items is.lane_agents.items is.holding.bits.items is.marked.bits.items c.insert.new.self.bits.items c.insert-2.new.self.bits.items is.agents.items c.args.lane c.set_dirty.new.self c.self.invariant refl
    (record { bits = c.insert.ensures.has; len = c.insert.ensures.len }) (record { bits = c.insert-2.ensures.has; len = c.insert-2.ensures.len })
