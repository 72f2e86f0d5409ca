use Rattle.std.proofs.Common.{◌≡◌, ◌+◌, length, arith, ap}
use Rattle.hq_job.specs.Plan.{plan}
use Rattle.hq_ordercheck.proofs.Packets.{packets_count}
use Rattle.hq_certcheck.proofs.Flagged.{passed_over, flagged_one_more}
use Rattle.hq_certcheck.proofs.missing.first_unflagged_after.Goals as goal

pub suspects-init : goal.suspects-init
suspects-init c =
    let next = c.next_in-r.ensures in
    let many = packets_count c.args.job.now in
    let same : length c.packets-count.result.now ≡ length c.args.job.now.packets = ap length c.packets-count.ensures in
    record {
      above = omega (arith, next.above);
      below = omega (arith, next.below, same);
      flagged = passed_over (plan c.args.job.now) c.args.flags.now c.args.p (c.args.p + 1) c.next_in-r.result (λ s above low. absurd (omega arith))
          (λ s low high. c.suspects-suspects.ensures s (omega (arith, high, next.below, same, many)) (next.none s low high));
    }

pub suspects-preserved : goal.suspects-preserved
suspects-preserved c =
    let next = c.next_in-r-in-suspects.ensures in
    let many = packets_count c.args.job.now in
    let same : length c.packets-count.result.now ≡ length c.args.job.now.packets = ap length c.packets-count.ensures in
    record {
      above = omega (arith, next.above, c.suspects.invariant.above);
      below = omega (arith, next.below, same);
      flagged = passed_over (plan c.args.job.now) c.args.flags.now c.args.p (c.suspects.r + 1) c.next_in-r-in-suspects.result
          (flagged_one_more (plan c.args.job.now) c.args.flags.now c.args.p c.suspects.r c.suspects.invariant.flagged (c.is_flagged.ensures.0 c.if-not-is_flagged.false))
          (λ s low high. c.suspects-suspects.ensures s (omega (arith, high, next.below, same, many)) (next.none s low high));
    }

pub returns : goal.returns
returns c s above below =
    let same : length c.packets-count.result.now ≡ length c.args.job.now.packets = ap length c.packets-count.ensures in
    c.suspects.invariant.flagged s above (omega (arith, below, c.suspects-test.false, same, packets_count c.args.job.now))
