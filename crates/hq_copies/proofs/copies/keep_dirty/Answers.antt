use Rattle.std.proofs.Common.{◌≡◌, ◌<◌, length, refl, ap, sym, ◌∙◌, arith, length-set}
use Rattle.hq_copies.specs.Copies.{dirty_only}
use Rattle.hq_copies.proofs.Known.{dropped_first, dropped_on, lane_cleaned}
use Rattle.hq_copies.proofs.Within.{level_at}
use Rattle.hq_copies.proofs.copies.keep_dirty.Goals as goal

pub lanes-init : goal.lanes-init
lanes-init c = record {
  from = c.next-lane.ensures.above;
  upto = c.next-lane.ensures.below;
  count = refl;
  kept = dropped_first c.args.lanes.now c.args.holding.now.bits.items c.args.start c.next-lane.result c.requires.known.held c.next-lane.ensures.above (omega (arith, c.next-lane.ensures.below, c.requires.within)) c.next-lane.ensures.none;
  known = c.requires.known;
}

pub lanes-preserved : goal.lanes-preserved
lanes-preserved c =
    let lanes = c.lanes.lanes in
    let lane = c.lanes.lane in
    let so = c.lanes.invariant in
    let x = c.index-lanes-lane.result in
    let there : lane < length lanes = omega (arith, so.count, c.lanes-test.true, c.requires.within) in
    let only : c.keep_dirty.new.self ≡ dirty_only x = c.keep_dirty.ensures ∙ ap dirty_only (sym c.index-lanes-lane.is) in
    let known = lane_cleaned lanes c.lanes.holding.bits.items c.args.marked.now.bits.items c.remove_unless.new.self.bits.items lane c.keep_dirty.new.self so.known there
    (only ∙ ap dirty_only (level_at lanes lane x there c.index-lanes-lane.is)) (record { bits = c.remove_unless.ensures.has; len = c.remove_unless.ensures.len }) in
    let next = c.next-lane-in-lanes.ensures in
    record {
      from = omega (arith, so.from, next.above);
      upto = next.below;
      count = length-set lanes lane c.keep_dirty.new.self ∙ so.count;
      kept = dropped_on c.args.lanes.now lanes c.args.start lane c.next-lane-in-lanes.result x c.keep_dirty.new.self c.remove_unless.new.self.bits.items c.args.marked.now.bits.items
          so.from (omega (arith, next.above)) (omega (arith, next.below, c.requires.within)) so.kept c.index-lanes-lane.is only known next.none;
      known = known;
    }
