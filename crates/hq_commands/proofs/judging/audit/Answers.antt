use Rattle.std.proofs.Common.{ap}
use Rattle.hq_front.proofs.Files.{file_reported, unopened}
use Rattle.hq_commands.proofs.judging.audit.Goals as goal

pub returns-in-Ok : goal.returns-in-Ok
returns-in-Ok g c = file_reported _ _ c.in-Ok.input c.audit_wide_engine.new.reader _ _ (λ text out status part. part) _ _ _ c.audit_wide_engine.result (ap g.W.Write.contents c.in-Ok.ensures.unwritten) c.audit_wide_engine.ensures

pub returns-in-Err : goal.returns-in-Err
returns-in-Err g c = unopened _ _ _ c.in-Err.status c.in-Err.ensures.unopened
