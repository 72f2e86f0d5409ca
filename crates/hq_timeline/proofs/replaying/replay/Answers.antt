use Rattle.std.proofs.Common.{subst}
use Rattle.hq_job.specs.Plan.{plan}
use Rattle.hq_timeline.specs.Replays.{Goes}
use Rattle.hq_timeline.proofs.Replays.{replayed}
use Rattle.hq_timeline.proofs.replaying.replay.Goals as goal

pub returns-clause-replayed : goal.returns-clause-replayed
returns-clause-replayed c =
    replayed (plan c.args.job.now) c.in_ok-state.state c.apply_all.new.state c.args.journal.now c.into_memory.result.items c.in_ok-state.ensures.start
    (subst (λ events. Goes (plan c.args.job.now) c.in_ok-state.state events c.apply_all.new.state) c.events.ensures c.in_ok-apply_all.ensures.goes)
    c.into_memory.ensures
