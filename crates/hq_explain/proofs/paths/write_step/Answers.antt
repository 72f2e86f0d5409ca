use Rattle.std.proofs.Common.{subst}
use Rattle.hq_graph.specs.Order.{IsRule}
use Rattle.hq_explain.proofs.Saying.{step_on}
use Rattle.hq_explain.proofs.paths.write_step.Goals as goal

pub returns : goal.returns
returns g c =
    let order = c.args.before.now in
    step_on c.write_rule.result (g.W.Write.contents c.args.writer.now) (g.W.Write.contents c.write_rule.new.writer) c.args.job.now order c.args.p c.args.r c.rule_in-rule.result
    (subst (λ j. IsRule j c.args.p c.args.r c.rule_in-rule.result) c.job.ensures c.rule_in-rule.ensures) c.write_rule.ensures
