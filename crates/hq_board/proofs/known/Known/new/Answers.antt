use Rattle.std.proofs.Common.{rules, refl}
use Rattle.hq_job.specs.Plan.{plan}
use Rattle.hq_board.proofs.Knowing.{new_tied, queue_near, span_from}
use Rattle.hq_board.proofs.known.Known.new.Goals as goal

pub returns : goal.returns
returns c = (new_tied (plan c.args.job.now) _ c.args.queue c.of_queue-packets.result.start c.len-count.result c.requires.rings (queue_near c.args.job.now c.args.queue c.requires.queue) c.requires.token refl refl c.in_ok-all_queued.ensures c.in_ok-nothing_observed.ensures refl refl (span_from (plan c.args.job.now) c.args.queue c.of_queue-packets.result.start c.of_queue-packets.result.end c.len-count.result c.of_queue-packets.ensures (search rules)), refl, refl)
