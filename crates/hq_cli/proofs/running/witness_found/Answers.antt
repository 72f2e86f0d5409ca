use Rattle.std.proofs.Common.{◌∙◌, ap, refl}
use Rattle.hq_cli.proofs.OfFiles.{has_looked, witness_unmade}
use Rattle.hq_cli.proofs.running.witness_found.Goals as goal

pub returns-in-Err : goal.returns-in-Err
returns-in-Err g c = witness_unmade c.args.job.now _ _ _ c.in-Err.status refl c.in-Err.ensures.unopened

pub returns-in-Err-created : goal.returns-in-Err-created
returns-in-Err-created g c = witness_unmade c.args.job.now _ _ _ c.in-Err-created.status (ap g.W.Write.contents c.in-Ok.ensures.unwritten) c.in-Err-created.ensures.unopened

pub returns : goal.returns
returns g c = has_looked c.args.job.now _ _ _ c.witness_engine.result (ap g.W.Write.contents (c.in-Ok-created.ensures.unwritten ∙ c.in-Ok.ensures.unwritten)) c.witness_engine.ensures
