use Rattle.std.proofs.Common.{[], ◌∙◌, inl, refl, sym}
use Rattle.hq_status.specs.declared.status.Status.TheVariants.{PairWords}
use Rattle.hq_status.proofs.Appending.{appends_none}
use Rattle.hq_cli.specs.Answered.ExplainAnswer.{explained, no_pair}
use Rattle.hq_cli.proofs.explaining.explain_asked.Goals as goal

pub returns-in-Some : goal.returns-in-Some
returns-in-Some g c = let said = c.explain_job.ensures in (said.0, said.1, explained c.in-Some.which (sym c.which_of.ensures ∙ c.in-Some.is) said.2, said.3)

pub returns-in-None : goal.returns-in-None
returns-in-None g c = ([], PairWords, no_pair (sym c.which_of.ensures ∙ c.in-None.is), inl (refl, appends_none _))
