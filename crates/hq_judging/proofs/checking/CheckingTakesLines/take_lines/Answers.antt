use Rattle.std.proofs.Common.{[]}
use Rattle.hq_judging.proofs.InChunks.{on_err, on_ok}
use Rattle.hq_judging.proofs.checking.CheckingTakesLines.take_lines.Goals as goal

pub returns-clause-took : goal.returns-clause-took
returns-clause-took c = on_ok c.take_text.result c.take_text.ensures.took (λ took from lines h. (took from [] lines h).0)

pub returns-clause-fault : goal.returns-clause-fault
returns-clause-fault c = on_err c.take_text.result c.take_text.ensures.fault (λ f fault from lines more h. fault from [] lines more h)
