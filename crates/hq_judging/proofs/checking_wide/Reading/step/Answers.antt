use Rattle.hq_text.proofs.Pieces.{stays_more}
use Rattle.hq_certread.specs.SoFar.{HasFault}
use Rattle.hq_judging.proofs.InChunks.{err_told, still_faulty, was_taking}
use Rattle.hq_judging.proofs.checking_wide.Reading.step.Goals as goal

pub returns-in_default : goal.returns-in_default
returns-in_default g c =
    let read = c.pass_over.ensures in
    (read.0, read.1, λ from text h. still_faulty from text read.0 c.args.self.now c.in_default.field-0 c.in_default.is h)

pub returns-in-Err : goal.returns-in-Err
returns-in-Err g c =
    let read = c.step-came.ensures in
    let fault = err_told c.step-came.result.1 c.in-Err.fault _ c.in-Err.is read.2.1 in
    (read.0, read.1, λ from text h. stays_more (λ lines. HasFault lines c.in-Err.fault) text read.0 (fault from text (was_taking from text c.args.self.now c.in-Taking.chunks c.in-Taking.is h)))
