use Rattle.std.proofs.Common.{refl}
use Rattle.hq_status.specs.Reports.{JobTextReport}
use Rattle.hq_showing.specs.Show.{ShowReport}
use Rattle.hq_c.proofs.Given.{answers_one}
use Rattle.hq_c.proofs.hsaq_show.Goals as goal

pub returns : goal.returns
returns c =
    answers_one _ _ _ _ c.args.job.now (JobTextReport ShowReport) c.new-written.result.items c.show_engine-status.new.writer.items c.deref.result.now c.args.report.now c.hand_out.new.report c.hand_out.new.whole c.show_engine-status.result c.hand_out.result
    refl c.new-written.ensures.items c.deref.ensures.value c.show_engine-status.ensures c.hand_out.ensures.handed c.hand_out.ensures.code
