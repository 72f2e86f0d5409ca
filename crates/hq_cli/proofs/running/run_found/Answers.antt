use Rattle.std.proofs.Common.{ap, codes}
use Rattle.hq_status.specs.Reports.{with_feed}
use Rattle.hq_status.specs.declared.status.Status.TheVariants.{Memory}
use Rattle.hq_cli.specs.Answered.RunAnswer.{no_memory}
use Rattle.hq_cli.proofs.OfFiles.{has_run, run_unmade}
use Rattle.hq_cli.proofs.running.run_found.Goals as goal

pub returns-in_default : goal.returns-in_default
returns-in_default g c = (with_feed (codes "out of memory"), Memory, no_memory, c.say_memory.ensures)

pub returns-in-Err : goal.returns-in-Err
returns-in-Err g c = run_unmade c.args.job _ _ c.in-Err.status c.in-Err.ensures.unopened

pub returns : goal.returns
returns g c = has_run c.args.job _ _ _ _ _ c.run_engine-status.result (ap g.W.Write.contents c.in-Ok-created.ensures.unwritten) c.run_engine-status.ensures
