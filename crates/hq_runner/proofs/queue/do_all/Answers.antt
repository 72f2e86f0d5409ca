use Rattle.std.proofs.Common.{rules, arith, ◌≤◌, ◌∙◌, length}
use Rattle.std.proofs.lemmas.List.{length-map}
use Rattle.hq_job.specs.Plan.{plan, planned}
use Rattle.hq_model.specs.Job.{IsPacket}
use Rattle.hq_runner.proofs.Packets.{did_more, did_all, ran_all}
use Rattle.hq_runner.proofs.queue.do_all.Goals as goal

pub overflow_cast-packet : goal.overflow_cast-packet
overflow_cast-packet g c =
    let there : IsPacket (plan c.args.job.now) c.loop-packet.packet = (c.of_queue-span.ensures.of_queue c.loop-packet.packet (omega arith) (omega arith)).0 in
    omega (arith, length-map c.args.job.now.packets planned)

pub do_packet-requires-clause-packet : goal.do_packet-requires-clause-packet
do_packet-requires-clause-packet g c κs within =
    let there : IsPacket (plan c.args.job.now) c.loop-packet.packet = (c.of_queue-span.ensures.of_queue c.loop-packet.packet (omega arith) (omega arith)).0 in
    omega (arith, length-map c.args.job.now.packets planned)

pub loop-packet-preserved : goal.loop-packet-preserved
loop-packet-preserved g c = record {
  low = omega arith;
  high = λ _. omega arith;
  parts = did_more (plan c.args.job.now) c.of_queue-span.result.start c.loop-packet.packet c.loop-packet.desk.events.items c.do_packet.new.desk.events.items c.loop-packet.invariant.low c.loop-packet.invariant.parts c.in_ok-next.ensures.list;
  room = c.in_ok-next.ensures.next;
  tasks = c.in_ok-next.ensures.tasks ∙ c.loop-packet.invariant.tasks;
  ran = c.in_ok-next.ensures.ran;
}

pub returns-clause-list : goal.returns-clause-list
returns-clause-list g c =
    did_all (plan c.args.job.now) c.args.queue c.of_queue-span.result.start c.of_queue-span.result.end c.loop-packet.packet c.loop-packet.desk.events.items
    c.of_queue-span.ensures c.loop-packet.invariant.low c.loop-packet-test.false c.loop-packet.invariant.high c.loop-packet.invariant.parts

pub returns-clause-ran : goal.returns-clause-ran
returns-clause-ran g c =
    let all : length c.loop-packet.bodies.items ≤ c.loop-packet.next = search rules in
    ran_all _ _ c.loop-packet.bodies.items c.loop-packet.next all c.loop-packet.invariant.ran
