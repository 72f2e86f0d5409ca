use Rattle.std.proofs.Common.{Some}
use Rattle.hq_job.specs.Access.{StandsAt}
use Rattle.hq_job.specs.Plan.{plan}
use Rattle.hq_job.proofs.QueuePlaces.{numbers_places, none_named}
use Rattle.hq_job.proofs.job.Job.number.Goals as goal

pub returns-in_err-number-clause-found : goal.returns-in_err-number-clause-found
returns-in_err-number-clause-found c =
    rw c.from_residual.ensures (numbers_places c.self.inside c.self.invariant c.args.self.now c.self.view_is c.deref.result.now c.deref.ensures.value c.deref-2.result.now c.deref-2.ensures.value c.args.queue c.args.place _ c.in_err-number.ensures.found)

pub returns-in_err-number-clause-none : goal.returns-in_err-number-clause-none
returns-in_err-number-clause-none c =
    none_named c.from_residual.result (StandsAt (plan c.args.self.now) c.args.queue c.args.place) (returns-in_err-number-clause-found c)

pub returns-clause-found : goal.returns-clause-found
returns-clause-found c =
    numbers_places c.self.inside c.self.invariant c.args.self.now c.self.view_is c.deref.result.now c.deref.ensures.value c.deref-2.result.now c.deref-2.ensures.value c.args.queue c.args.place _ c.in_ok-number.ensures.found

pub returns-clause-none : goal.returns-clause-none
returns-clause-none c =
    none_named (Some c.in_ok-number.number) (StandsAt (plan c.args.self.now) c.args.queue c.args.place) (returns-clause-found c)
