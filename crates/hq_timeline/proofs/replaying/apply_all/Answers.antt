use Rattle.hq_job.specs.Plan.{plan}
use Rattle.hq_timeline.proofs.Replays.{goes_next, stops_here}
use Rattle.hq_timeline.proofs.replaying.apply_all.Goals as goal

pub returns-in-Err-clause-stops : goal.returns-in-Err-clause-stops
returns-in-Err-clause-stops c =
    stops_here (plan c.args.job.now) c.args.state.now c.loop-place.state c.args.events.now c.loop-place.place _ c.in-Err.fault c.fault_at.result c.loop-place.invariant c.loop-place-test.true c.in-Err.ensures.fault c.fault_at.ensures

pub loop-place-preserved : goal.loop-place-preserved
loop-place-preserved c = goes_next (plan c.args.job.now) c.args.state.now c.loop-place.state c.apply.new.self c.args.events.now c.loop-place.place _ c.loop-place.invariant c.loop-place-test.true c.in_default.ensures.ok
