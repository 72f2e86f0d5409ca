use Rattle.std.proofs.Common.{arith}
use Rattle.hq_job.specs.Plan.{plan}
use Rattle.hq_model.specs.Job.{IsPacket}
use Rattle.hq_waits.proofs.Packets.{packets_count}
use Rattle.hq_explain.proofs.Noting.{set_more, same_count}
use Rattle.hq_explain.proofs.bits.set_bits.Goals as goal

pub loop-p-preserved : goal.loop-p-preserved
loop-p-preserved c =
    let old = c.args.job.now in
    let mid = c.loop-p.job in
    let new = c.set_head.new.self in
    let i = c.loop-p.invariant in
    let is : IsPacket (plan mid) c.loop-p.p = omega (arith, packets_count mid, i.3, c.loop-p-test.true, c.requires.few) in
    let more = set_more (plan old) (plan mid) (plan new) c.args.lo c.loop-p.p c.head.result c.changed-head.result i.0 is i.2 c.head.ensures c.changed-head.ensures c.set_head.ensures.plan in
    (omega (arith, i.0), omega (arith, c.loop-p-test.true), more, same_count old new more.same)
