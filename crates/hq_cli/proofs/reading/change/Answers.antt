use Rattle.std.proofs.Common.{ap, subst}
use Rattle.hq_engines.specs.Change.{ChangeReport}
use Rattle.hq_status.specs.Reports.{JobTextReport, Reported}
use Rattle.hq_front.specs.Files.{FileReport}
use Rattle.hq_front.proofs.Files.{unopened}
use Rattle.hq_cli.proofs.reading.change.Goals as goal

pub returns-in-Ok : goal.returns-in-Ok
returns-in-Ok g c =
    subst (λ old. Reported (FileReport (λ text. JobTextReport (ChangeReport c.args.aim text) text)) old (g.W.Write.contents c.change_opened.new.writer) c.change_opened.result) (ap g.W.Write.contents c.in-Ok.ensures.unwritten) c.change_opened.ensures

pub returns-in-Err : goal.returns-in-Err
returns-in-Err g c = unopened _ _ _ c.in-Err.status c.in-Err.ensures.unopened
