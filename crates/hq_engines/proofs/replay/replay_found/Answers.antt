use Rattle.std.proofs.Common.{length, ap, sym, subst, ◌∙◌}
use Rattle.hq_job.specs.Plan.{plan}
use Rattle.hq_timeline.specs.Replays.{Replayed}
use Rattle.hq_engines.proofs.Replays.{stop_reported, buffers_reported, replayed_long}
use Rattle.hq_engines.proofs.replay.replay_found.Goals as goal

pub returns-in-Err : goal.returns-in-Err
returns-in-Err g c = stop_reported c.args.job.now c.args.journal.now c.in-Err.fault _ _ c.say_stopped.result c.in-Err.ensures.refused c.say_stopped.ensures

pub say_buffers-requires : goal.say_buffers-requires
say_buffers-requires g c = ap length c.deref.ensures.value ∙ replayed_long (plan c.args.job.now) c.args.journal.now c.in-Ok.memory.items c.in-Ok.ensures.replayed

pub returns-in-Ok : goal.returns-in-Ok
returns-in-Ok g c =
    buffers_reported c.args.job.now c.args.journal.now c.deref.result.now _ _ c.say_buffers.result
    (subst (λ bytes. Replayed (plan c.args.job.now) c.args.journal.now bytes) (sym c.deref.ensures.value) c.in-Ok.ensures.replayed) c.say_buffers.ensures
