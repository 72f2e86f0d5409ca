use Rattle.std.proofs.Common.{subst}
use Rattle.hq_engines.specs.Change.ChangeReport.{changed}
use Rattle.hq_status.specs.Reports.{Said}
use Rattle.hq_status.specs.declared.status.Status.TheVariants as status
use Rattle.hq_engines.proofs.Changes.{no_change, no_undone, written_told}
use Rattle.hq_engines.proofs.change.change_found.Goals as goal

pub returns-in-Ok-clause-report : goal.returns-in-Ok-clause-report
returns-in-Ok-clause-report g c =
    let was = g.W.Write.contents c.args.writer.now in
    let is = g.W.Write.contents c.say_changed.new.writer in (
      c.in-Ok.new.items,
      status.Done,
      changed c.in-Ok.changed.job c.in-Ok.new.items c.in-Ok.ensures.changed c.in-Ok.ensures.text c.in-Ok.ensures.rewritten,
      subst (λ t. Said was is t status.Done c.say_changed.result.0) c.deref.ensures.value c.say_changed.ensures.said,
    )

pub returns-in-Err-clause-report : goal.returns-in-Err-clause-report
returns-in-Err-clause-report g c =
    no_change c.stuck_exactly.ensures c.args.aim c.args.text.now c.args.job.now c.valid.ensures.valid c.in-Err.no _ _ c.say_no_certificate.result c.in-Err.ensures.refused c.say_no_certificate.ensures

pub returns-in-Ok-clause-told : goal.returns-in-Ok-clause-told
returns-in-Ok-clause-told g c =
    let was = g.W.Write.contents c.args.writer.now in
    let is = g.W.Write.contents c.say_changed.new.writer in
    written_told c.args.aim c.args.text.now c.args.job.now c.in-Ok.new.items c.in-Ok.changed was is c.say_changed.result.0 c.say_changed.result.1 c.in-Ok.ensures.text c.in-Ok.ensures.rewritten (record { changed = c.in-Ok.ensures.changed; heads = c.in-Ok.ensures.heads })
    (subst (λ t. Said was is t status.Done c.say_changed.result.0) c.deref.ensures.value c.say_changed.ensures.said) c.say_changed.ensures.told

pub returns-in-Err-clause-told : goal.returns-in-Err-clause-told
returns-in-Err-clause-told g c = no_undone c.in-Err.no _ _ c.say_no_certificate.result c.say_no_certificate.ensures
