use Rattle.std.proofs.Common.{◌≡◌, length, arith, ap, sym, subst, ◌∙◌}
use Rattle.std.proofs.lemmas.List.{length-map}
use Rattle.hq_copies.specs.Copies.{LanesReleased}
use Rattle.hq_job.specs.Plan.{plan, planned}
use Rattle.hq_machine.proofs.FenceBacks.{queue_back}
use Rattle.hq_machine.proofs.coarse.push_lanes.Goals as goal

pub queues-preserved : goal.queues-preserved
queues-preserved c =
    let job = plan c.args.job.now in
    let count : length c.packets.result.now ≡ length job.packets = ap length c.packets.ensures ∙ sym (length-map c.args.job.now.packets planned) in
    let end = c.queue_of-end.result in
    let back = subst (λ a. LanesReleased c.queues.copies c.queues.lane end.end a c.release.new.self) c.agent_of.ensures c.in_ok-release.ensures.ok in
    record {
      within = c.queue_of-end.ensures.within;
      swept = queue_back job c.args.copies.now c.queues.copies c.queues.lane end.start end.end c.release.new.self c.requires (omega (arith, c.queues-test.true, count)) c.queue_of-end.ensures.are c.queue_of-end.ensures.within c.queues.invariant.swept back;
    }
