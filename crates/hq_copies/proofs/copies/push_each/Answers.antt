use Rattle.std.proofs.Common.{◌≡◌, sym, ap₂, ◌∙◌, arith, ap}
use Rattle.std.specs.FinMap as finite
use Rattle.hq_copies.specs.Copies.{taken, held}
use Rattle.hq_copies.proofs.Known.{pushed_none, pushed_on}
use Rattle.hq_copies.proofs.Within.{level_at}
use Rattle.hq_copies.proofs.copies.push_each.Goals as goal

pub lanes-init : goal.lanes-init
lanes-init c = record {
  from = c.next-lane.ensures.above;
  upto = c.next-lane.ensures.below;
  pushed = λ b. sym (pushed_none c.args.lanes.now c.args.marked.now.bits.items c.args.start c.next-lane.result b (finite.get c.args.below.now b) c.requires.marked c.next-lane.ensures.above c.next-lane.ensures.none);
}

pub lanes-preserved : goal.lanes-preserved
lanes-preserved c =
    let lanes = c.args.lanes.now in
    let so = c.lanes.invariant in
    let next = c.next-lane-in-lanes.ensures in
    let here : c.index-lanes-lane.result ≡ held lanes c.lanes.lane = level_at lanes c.lanes.lane c.index-lanes-lane.result (omega (arith, c.lanes-test.true, c.requires.within)) c.index-lanes-lane.is in
    record {
      from = omega (arith, so.from, next.above);
      upto = next.below;
      pushed = λ b.
          c.in_ok-push_into.ensures b
          ∙ ap₂ taken (ap (λ m. finite.get m b) here) (so.pushed b)
          ∙ pushed_on lanes c.args.marked.now.bits.items c.args.start c.lanes.lane c.next-lane-in-lanes.result b (finite.get c.args.below.now b) c.requires.marked so.from (omega (arith, next.above)) next.none;
    }
