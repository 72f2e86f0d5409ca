use Rattle.std.proofs.Common.{ap}
use Rattle.hq_engines.specs.Replay.{RunReport}
use Rattle.hq_engines.proofs.Replays.{timeline_missing, timeline_found}
use Rattle.hq_engines.proofs.replay.replay_read.Goals as goal

pub returns-in-Err : goal.returns-in-Err
returns-in-Err g c = timeline_missing _ g.S.Read.remaining c.args.timeline.now c.take_journal.new.reader (RunReport c.args.job.now) _ _ c.in-Err.status c.in-Err.ensures.refused

pub returns-in-Ok : goal.returns-in-Ok
returns-in-Ok g c =
    timeline_found _ g.S.Read.remaining c.args.timeline.now c.take_journal.new.reader (RunReport c.args.job.now) c.in-Ok.journal _ _ _ c.replay_found.result c.in-Ok.ensures.found (ap g.W.Write.contents c.in-Ok.ensures.unwritten) c.replay_found.ensures
