use Rattle.hq_job.specs.Plan.{plan}
use Rattle.hq_judging.proofs.Audits.{certificate_reported, memory_reported}
use Rattle.hq_judging.proofs.giving.say_whole.Goals as goal

pub returns-in-Ok : goal.returns-in-Ok
returns-in-Ok g c = certificate_reported (plan c.args.job.now) c.in-Ok.certificate _ _ c.say_certificate.result c.in-Ok.ensures c.say_certificate.ensures

pub returns-in-Err : goal.returns-in-Err
returns-in-Err g c = memory_reported (plan c.args.job.now) _ _ c.say_memory.result c.say_memory.ensures
