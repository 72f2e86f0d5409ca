use Rattle.std.proofs.Common.{refl}
use Rattle.hq_engines.specs.Change.{ChangeReport}
use Rattle.hq_status.specs.Reports.{JobTextReport}
use Rattle.hq_engines.specs.declared.change.Aim.TheVariants as aim
use Rattle.hq_c.proofs.Given.{answers_one}
use Rattle.hq_c.proofs.hsaq_fix.Goals as goal

pub returns : goal.returns
returns c =
    answers_one _ _ _ _ c.args.job.now (λ text. JobTextReport (ChangeReport aim.Fix text) text) c.new-written.result.items c.change_engine-status.new.writer.items c.deref.result.now c.args.report.now c.hand_out.new.report c.hand_out.new.whole c.change_engine-status.result.0 c.hand_out.result
    refl c.new-written.ensures.items c.deref.ensures.value c.change_engine-status.ensures.report c.hand_out.ensures.handed c.hand_out.ensures.code
