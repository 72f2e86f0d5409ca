use Rattle.std.proofs.Common.{ap, subst}
use Rattle.hq_engines.specs.Change.{ChangeReport, TellsIfDone, TellsWritten}
use Rattle.hq_status.specs.Reports.{Reported}
use Rattle.hq_engines.proofs.Changes.{change_missing, change_reported, change_told, missing_undone}
use Rattle.hq_engines.proofs.change.change_engine.Goals as goal

pub returns-in-Ok-clause-report : goal.returns-in-Ok-clause-report
returns-in-Ok-clause-report g c =
    let was = g.W.Write.contents c.take_job_text.new.writer in
    let is = g.W.Write.contents c.change_found-answer.new.writer in
    change_reported _ g.R.Read.remaining c.args.reader.now c.take_job_text.new.reader c.args.aim c.in-Ok.text.items c.in-Ok.job _ _ _ c.change_found-answer.result.0 c.in-Ok.ensures.found (ap g.W.Write.contents c.in-Ok.ensures.unwritten)
    (subst (λ t. Reported (ChangeReport c.args.aim t c.in-Ok.job) was is c.change_found-answer.result.0) c.deref.ensures.value c.change_found-answer.ensures.report)

pub returns-in-Err-clause-report : goal.returns-in-Err-clause-report
returns-in-Err-clause-report g c = change_missing _ g.R.Read.remaining c.args.reader.now c.take_job_text.new.reader c.args.aim _ _ c.in-Err.status c.in-Err.ensures.refused

pub returns-in-Ok-clause-told : goal.returns-in-Ok-clause-told
returns-in-Ok-clause-told g c =
    let mid = g.W.Write.contents c.take_job_text.new.writer in
    let is = g.W.Write.contents c.change_found-answer.new.writer in
    let answer = c.change_found-answer.result in
    change_told _ g.R.Read.remaining c.args.reader.now c.take_job_text.new.reader c.args.aim c.in-Ok.text.items c.in-Ok.job _ mid is answer.0 answer.1 c.in-Ok.ensures.found (ap g.W.Write.contents c.in-Ok.ensures.unwritten)
    (subst (λ t. TellsIfDone answer.0 answer.1 (TellsWritten c.args.aim t c.in-Ok.job mid is)) c.deref.ensures.value c.change_found-answer.ensures.told)

pub returns-in-Err-clause-told : goal.returns-in-Err-clause-told
returns-in-Err-clause-told g c = missing_undone _ g.R.Read.remaining c.args.reader.now c.take_job_text.new.reader _ _ c.in-Err.status c.in-Err.ensures.refused
