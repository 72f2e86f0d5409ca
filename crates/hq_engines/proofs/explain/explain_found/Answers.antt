use Rattle.std.proofs.Common.{refl}
use Rattle.hq_status.specs.declared.status.Status.TheVariants.{File}
use Rattle.hq_engines.proofs.Explanations.{explain_broken, explain_reported, explain_unwritten}
use Rattle.hq_engines.proofs.explain.explain_found.Goals as goal

pub returns-in-Ok : goal.returns-in-Ok
returns-in-Ok g c = explain_reported c.args.job.now c.args.which _ _ c.in-Ok.found _ c.in-Ok.ensures.explained refl

pub returns-in-Err-Memory : goal.returns-in-Err-Memory
returns-in-Err-Memory g c = explain_broken c.args.job.now c.args.which _ _ _ c.say_memory.result (c.in-Err-Memory.ensures.broken c.in-Err-Memory.field-0-is) c.say_memory.ensures

pub returns-in-Err-Writer : goal.returns-in-Err-Writer
returns-in-Err-Writer g c = explain_unwritten c.args.job.now c.args.which _ _ File refl
