use Rattle.std.proofs.Common.{subst, sym}
use Rattle.hq_graph.specs.Order.{HasRule}
use Rattle.hq_graph.proofs.Reasons.{rule_of_step}
use Rattle.hq_graph.proofs.ruling.rule_of.Goals as goal

pub rule_in-requires-clause-direct : goal.rule_in-requires-clause-direct
rule_in-requires-clause-direct c =
    subst (λ j. HasRule j c.args.p c.args.r) (sym c.job.ensures) (rule_of_step c.args.before.now c.args.p c.args.r c.requires.step)
