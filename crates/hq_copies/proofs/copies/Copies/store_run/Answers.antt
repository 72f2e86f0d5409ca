use Rattle.std.proofs.Common.{◌≡◌, ◌<◌, length, set, refl, ap, sym, subst, ◌∙◌}
use Rattle.std.specs.FinMap as finite
use Rattle.hq_copies.specs.Copies.{CopiesValue, held, stored_run}
use Rattle.hq_copies.specs.Overlays.{run_at, dirty_over}
use Rattle.hq_copies.proofs.Gathered.{same_held}
use Rattle.hq_copies.proofs.StoredRuns.{held_run, get_held_run, stored_is}
use Rattle.hq_copies.proofs.Known.{lane_kept}
use Rattle.hq_copies.proofs.Within.{level_at}
use Rattle.hq_copies.proofs.copies.Copies.store_run.Goals as goal

pub returns-clause-ok : goal.returns-clause-ok
returns-clause-ok c =
    let lanes = c.self.inside.lanes.items in
    let bytes = c.args.bytes.now in
    let old : CopiesValue = record { memory = c.self.inside.memory.items; agents = c.self.inside.agents.items; lanes = lanes; lane_agents = c.self.inside.lane_agents.items } in
    let A : CopiesValue → Type 0 = λ t. c.args.lane < length t.lanes in
    let there : c.args.lane < length lanes = subst A (sym c.self.view_is) c.requires.lane in
    let level : c.index_mut.result.now ≡ held lanes c.args.lane = level_at lanes c.args.lane c.index_mut.result.now there c.index_mut.ensures.value in
    let new : c.set_run.new.self ≡ held_run (held lanes c.args.lane) c.args.byte bytes = same_held c.set_run.new.self (held_run (held lanes c.args.lane) c.args.byte bytes) (λ n.
    c.in_ok-set_run.ensures.ok n
    ∙ ap (λ k. dirty_over (run_at k bytes n) (finite.get c.index_mut.result.now n)) c.number-start.ensures.number
    ∙ ap (λ t. dirty_over (run_at c.args.byte bytes n) (finite.get t n)) level
    ∙ sym (get_held_run (held lanes c.args.lane) c.args.byte bytes n)) in
    ap (λ m. record old { lanes = set lanes c.args.lane m }) new
    ∙ sym (stored_is old c.args.lane c.args.byte bytes there)
    ∙ ap (λ t. stored_run t c.args.lane c.args.byte bytes) c.self.view_is

pub invariant_of-self-2 : goal.invariant_of-self-2
invariant_of-self-2 c =
    let is = c.self.inside in
    lane_kept is.memory.items is.agents.items is.lanes.items is.lane_agents.items is.holding.bits.items is.marked.bits.items c.insert.new.self.bits.items c.insert-2.new.self.bits.items is.agents.items c.args.lane c.set_run.new.self c.self.invariant refl
    (record { bits = c.insert.ensures.has; len = c.insert.ensures.len }) (record { bits = c.insert-2.ensures.has; len = c.insert-2.ensures.len })
