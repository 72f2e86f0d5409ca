use Rattle.std.proofs.Common.{refl}
use Rattle.hq_judging.specs.Check.{CertReport}
use Rattle.hq_c.proofs.Given.{answers_both}
use Rattle.hq_c.proofs.hsaq_check.Goals as goal

pub returns : goal.returns
returns c =
    answers_both _ _ _ _ c.args.job.now _ _ _ _ c.args.certificate.now CertReport c.new-written.result.items c.check_alone_engine-status.new.writer.items c.deref.result.now c.args.report.now c.hand_out.new.report c.hand_out.new.whole c.check_alone_engine-status.result c.hand_out.result
    refl refl c.new-written.ensures.items c.deref.ensures.value c.check_alone_engine-status.ensures c.hand_out.ensures.handed c.hand_out.ensures.code
