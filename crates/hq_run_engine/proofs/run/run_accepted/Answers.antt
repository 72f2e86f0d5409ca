use Rattle.std.proofs.Common.{refl}
use Rattle.hq_run_engine.specs.Run.{failure_of}
use Rattle.hq_run_engine.proofs.Runs.{fault_reported, named_packet, ran_of}
use Rattle.hq_run_engine.proofs.run.run_accepted.Goals as goal

pub returns-in-Ok : goal.returns-in-Ok
returns-in-Ok g c =
    ran_of c.args.accepted.now.job c.job.result.now c.in-Ok.outcome.journal c.in-Ok.outcome.memory.items c.deref.result.now _ _ _ _ c.say_ran.result c.job.ensures c.deref.ensures.value
    c.in-Ok.ensures.whole c.in-Ok.ensures.one_by_one c.say_ran.ensures

pub returns-in-Err : goal.returns-in-Err
returns-in-Err g c =
    fault_reported c.args.accepted.now.job (failure_of c.in-Err.fault) _ _ _ _ c.say_fault.result
    (λ told is. named_packet c.args.accepted.now.job c.in-Err.fault told c.in-Err.ensures.counted is) refl c.say_fault.ensures
