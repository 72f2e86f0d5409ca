use Rattle.std.proofs.Common.{ap}
use Rattle.hq_front.proofs.Files.{file_reported, unopened}
use Rattle.hq_cli.proofs.reading.graph.Goals as goal

pub returns-in-Ok : goal.returns-in-Ok
returns-in-Ok g c = file_reported _ _ c.in-Ok.input c.graph_engine.new.reader _ _ (λ text out status part. part) _ _ _ c.graph_engine.result (ap g.W.Write.contents c.in-Ok.ensures.unwritten) c.graph_engine.ensures

pub returns-in-Err : goal.returns-in-Err
returns-in-Err g c = unopened _ _ _ c.in-Err.status c.in-Err.ensures.unopened
