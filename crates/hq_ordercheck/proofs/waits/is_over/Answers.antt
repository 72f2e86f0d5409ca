use Rattle.std.proofs.Common.{length, refl, sym, ◌∙◌}
use Rattle.hq_job.specs.Plan.{plan}
use Rattle.hq_ordercheck.proofs.Lasts.{last_over, none_over}
use Rattle.hq_ordercheck.proofs.waits.is_over.Goals as goal

pub returns-in-Some : goal.returns-in-Some
returns-in-Some c = last_over (plan c.args.job.now) c.args.places.now (length c.args.job.now.signals) c.args.signal c.args.r c.in-Some.last c.args.lasts.now c.requires.lasts (sym c.last_of.ensures ∙ c.in-Some.is)

pub returns-in-None : goal.returns-in-None
returns-in-None c = (λ t. none_over (plan c.args.job.now) c.args.places.now (length c.args.job.now.signals) c.args.signal c.args.r c.args.lasts.now c.requires.lasts (sym c.last_of.ensures ∙ c.in-None.is), λ all. refl)
