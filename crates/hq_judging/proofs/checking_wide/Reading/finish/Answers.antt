use Rattle.hq_text.proofs.Pieces.{stays_at_end}
use Rattle.hq_certread.specs.SoFar.{HasFault}
use Rattle.hq_judging.proofs.InChunks.{was_faulty}
use Rattle.hq_judging.proofs.checking_wide.Reading.finish.Goals as goal

pub returns-in-Faulty : goal.returns-in-Faulty
returns-in-Faulty g c from text h = stays_at_end (λ lines. HasFault lines c.in-Faulty.fault) text (was_faulty from text c.args.self c.in-Faulty.fault c.in-Faulty.is h)
