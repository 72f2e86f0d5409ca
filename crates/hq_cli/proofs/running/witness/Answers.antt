use Rattle.std.proofs.Common.{ap}
use Rattle.hq_cli.specs.Answered.{WitnessAnswer}
use Rattle.hq_cli.proofs.OfFiles.{of_none, of_taken}
use Rattle.hq_cli.proofs.running.witness.Goals as goal

pub returns-in-Ok : goal.returns-in-Ok
returns-in-Ok g c = of_taken WitnessAnswer c.in-Ok.job _ _ _ c.witness_found-status.result c.in-Ok.ensures.text (ap g.W.Write.contents c.in-Ok.ensures.unwritten) c.witness_found-status.ensures

pub returns-in-Err : goal.returns-in-Err
returns-in-Err g c = of_none WitnessAnswer _ _ c.in-Err.status c.in-Err.ensures.refused
