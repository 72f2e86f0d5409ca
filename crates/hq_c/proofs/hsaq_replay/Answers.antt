use Rattle.std.proofs.Common.{refl}
use Rattle.hq_engines.specs.Replay.{RunReport, TimelineReport}
use Rattle.hq_c.proofs.Given.{answers_both}
use Rattle.hq_c.proofs.hsaq_replay.Goals as goal

pub returns : goal.returns
returns c =
    answers_both _ _ _ _ c.args.job.now _ _ _ _ c.args.timeline.now (λ value. TimelineReport (RunReport value)) c.new-written.result.items c.replay_engine-status.new.writer.items c.deref.result.now c.args.report.now c.hand_out.new.report c.hand_out.new.whole c.replay_engine-status.result c.hand_out.result
    refl refl c.new-written.ensures.items c.deref.ensures.value c.replay_engine-status.ensures c.hand_out.ensures.handed c.hand_out.ensures.code
