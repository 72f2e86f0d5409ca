use Rattle.hq_text.proofs.Pieces.{last_fault}
use Rattle.hq_text.proofs.intake.Reading+L+L+Fault.finish.Goals as goal

pub returns-in-Faulty : goal.returns-in-Faulty
returns-in-Faulty g c from text h = last_fault (g.L.TakesLines.Took from) g.L.TakesLines.Refuses c.args.self c.in-Faulty.fault text c.in-Faulty.is h
