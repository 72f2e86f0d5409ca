use Rattle.hq_showing.proofs.Queues.{queues_there}
use Rattle.hq_showing.proofs.show.show_job.Goals as goal

pub show_packets-requires : goal.show_packets-requires
show_packets-requires g c = queues_there c.args.job.now c.valid.ensures.valid _ _ c.packets-packets.ensures c.queues.ensures
