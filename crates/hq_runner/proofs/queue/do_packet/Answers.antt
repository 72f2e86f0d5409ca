use Rattle.std.proofs.Common.{rules, arith, ◌≡◌, ◌<◌, length}
use Rattle.std.proofs.lemmas.List.{length-map}
use Rattle.hq_job.specs.Plan.{plan, planned}
use Rattle.hq_tables.specs.Kinds.{kind_of}
use Rattle.hq_model.specs.Job.{IsPacket}
use Rattle.hq_model.specs.Job.Kind.{Work, BarrierOr}
use Rattle.hq_runner.proofs.Packets.{map_same, ran_more, did_work, did_or}
use Rattle.hq_runner.proofs.queue.do_packet.Goals as goal

pub returns-in_err-do_work-in-Kernel-clause-tasks :
    goal.returns-in_err-do_work-in-Kernel-clause-tasks
returns-in_err-do_work-in-Kernel-clause-tasks g c = map_same _ c.args.bodies.now.items c.args.next c.index_mut.result.now c.do_work.new.body c.index_mut.ensures.value c.do_work.ensures.task

pub returns-in_ok-do_work-in-Kernel-clause-tasks :
    goal.returns-in_ok-do_work-in-Kernel-clause-tasks
returns-in_ok-do_work-in-Kernel-clause-tasks g c = map_same _ c.args.bodies.now.items c.args.next c.index_mut.result.now c.do_work.new.body c.index_mut.ensures.value c.do_work.ensures.task

pub returns-in_ok-do_work-in-Kernel-clause-ran : goal.returns-in_ok-do_work-in-Kernel-clause-ran
returns-in_ok-do_work-in-Kernel-clause-ran g c =
    let low : c.args.next < length c.args.bodies.now.items = search rules in
    ran_more _ _ c.args.bodies.now.items c.args.next c.do_work.new.body low c.in_ok-do_work-in-Kernel.ensures.ran c.requires.ran

pub returns-in_ok-do_work-in-Kernel-clause-list : goal.returns-in_ok-do_work-in-Kernel-clause-list
returns-in_ok-do_work-in-Kernel-clause-list g c =
    let kind : kind_of c.packet-placed.result.now.packet ≡ Work = search rules in
    did_work (plan c.args.job.now) c.args.packet c.packet-placed.result.now c.args.desk.now.events.items c.do_work.new.desk.events.items c.packet-placed.ensures kind c.in_ok-do_work-in-Kernel.ensures.list

pub returns-in_ok-do_or-in-Or-clause-list : goal.returns-in_ok-do_or-in-Or-clause-list
returns-in_ok-do_or-in-Or-clause-list g c =
    let kind : kind_of c.packet-placed.result.now.packet ≡ BarrierOr = search rules in
    let there : IsPacket (plan c.args.job.now) c.args.packet = omega (arith, length-map c.args.job.now.packets planned) in
    did_or (plan c.args.job.now) c.args.packet c.packet-placed.result.now c.args.desk.now.events.items c.do_or.new.desk.events.items there c.packet-placed.ensures kind c.in_ok-do_or-in-Or.ensures
