use Rattle.std.proofs.Common.{arith, sym}
use Rattle.hq_schedule.proofs.scheduling.end_of_queue.Goals as goal

pub returns-clause-behind : goal.returns-clause-behind
returns-clause-behind c = λ r l below.
    let of = c.queue_of.ensures.are.of_queue r (omega (arith, l, c.queue_of.ensures.from)) below in
    record {
      ahead = l;
      is_packet = of.0;
      same_queue = sym of.1;
    }
