use Rattle.std.proofs.Common.{IsTrue, ◌↔◌, sym, subst}
use Rattle.hq_job.specs.Plan.{plan}
use Rattle.hq_explain.specs.Changes.{Orders}
use Rattle.hq_explain.specs.declared.change.Change.TheVariants as change
use Rattle.hq_explain.proofs.advice.advice_of.Goals as goal

pub returns-clause-advice : goal.returns-clause-advice
returns-clause-advice c = record {
  bit = subst (λ o. IsTrue o ↔ Orders (plan c.args.job.now) c.args.a c.args.b c.args.p change.Bit) (sym c.has.ensures) c.requires.bits;
  acquire = c.least-acquire.ensures.least;
  release = c.least-release.ensures.least;
}
