use Rattle.std.proofs.Common.{◌∙◌, sym}
use Rattle.hq_job.specs.Plan.{plan}
use Rattle.hq_events.specs.Events.{single_of}
use Rattle.hq_witness.proofs.Runs.{comes, taken}
use Rattle.hq_witness.proofs.recording.Recording.take.Goals as goal

pub follow-requires-clause-comes : goal.follow-requires-clause-comes
follow-requires-clause-comes c = comes (plan c.args.job.now) c.args.self.now.state c.step.new.self (single_of c.args.event) c.in-Ok.ensures.ok

pub returns-clause-recording : goal.returns-clause-recording
returns-clause-recording c =
    taken (plan c.args.job.now) c.args.self.now c.step.new.self c.push.new.self c.follow.new.self c.args.event c.requires (sym c.is_single.ensures ∙ c.if-not-is_single.false) c.in-Ok.ensures.ok c.in_ok-follow.ensures c.in_ok-push.ensures.ok
