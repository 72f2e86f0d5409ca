use Rattle.std.proofs.Common.{refl}
use Rattle.hq_engines.specs.Change.{ChangeReport}
use Rattle.hq_status.specs.Reports.{JobTextReport}
use Rattle.hq_front.proofs.Files.{file_reported}
use Rattle.hq_cli.proofs.reading.change_opened.Goals as goal

pub returns : goal.returns
returns g c = file_reported _ _ c.args.input.now c.change_engine-status.new.reader _ (λ text. JobTextReport (ChangeReport c.args.aim text) text) (λ text out status part. part) _ _ _ c.change_engine-status.result.0 refl c.change_engine-status.ensures.report
