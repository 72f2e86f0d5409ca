use Rattle.std.proofs.Common.{refl}
use Rattle.hq_engines.specs.Explain.{ExplainReport}
use Rattle.hq_status.specs.Reports.{JobTextReport}
use Rattle.hq_explain.specs.declared.which.Which.TheVariants as which
use Rattle.hq_c.proofs.Given.{answers_one}
use Rattle.hq_c.proofs.hsaq_explain.Goals as goal

pub returns : goal.returns
returns c =
    answers_one _ _ _ _ c.args.job.now (JobTextReport (ExplainReport which.First)) c.new-written.result.items c.explain_engine-status.new.writer.items c.deref.result.now c.args.report.now c.hand_out.new.report c.hand_out.new.whole c.explain_engine-status.result c.hand_out.result
    refl c.new-written.ensures.items c.deref.ensures.value c.explain_engine-status.ensures c.hand_out.ensures.handed c.hand_out.ensures.code
