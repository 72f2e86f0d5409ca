use Rattle.std.proofs.Common.{◌<◌, ap, arith, below_more, length, refl}
use Rattle.hq_job.specs.Plan.{plan}
use Rattle.hq_model.specs.Job.{packet}
use Rattle.hq_waits.proofs.Packets.{packets_count}
use Rattle.hq_graph.specs.Order.{Awaits}
use Rattle.hq_graph.specs.declared.wait.Wait.{Wait}
use Rattle.hq_explain.proofs.Waits.{waits_for_one}
use Rattle.hq_explain.proofs.stuck.wait_of.Goals as goal

pub loop-p-preserved : goal.loop-p-preserved
loop-p-preserved c = below_more (λ q. (by : Wait) → Awaits (plan c.args.job.now) q c.args.r by → ⊥) c.loop-p.p c.loop-p.invariant c.in_default.ensures

pub unreachable-requires : goal.unreachable-requires
unreachable-requires c =
    let job = plan c.args.job.now in
    let own = c.queue_of-own.result in
    let w = waits_for_one job (packet job c.args.r).queue own.start own.end c.args.r c.valid.ensures.valid c.queue_of-own.ensures.are refl c.requires.r_is c.requires.stuck in
    let low : w.p < length job.packets = w.there in
    c.loop-p.invariant w.p (omega (arith, low, c.loop-p-test.false, packets_count c.args.job.now, ap length c.packets-p-end.ensures)) w.by w.awaits
