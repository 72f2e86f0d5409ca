use Rattle.std.proofs.Common.{◌≡◌, sym, ◌∙◌, true, false}
use Rattle.hq_job.specs.Plan.{plan}
use Rattle.hq_graph.proofs.Reasons.{or_rule}
use Rattle.hq_graph.proofs.ruling.rule_in.Goals as goal

pub returns-in-None : goal.returns-in-None
returns-in-None c =
    or_rule (plan c.args.job.now) c.args.p c.args.r c.requires.direct c.in_default.ensures.first
    (λ b. let t : true ≡ false = sym (c.is_held.ensures.1 b) ∙ c.if-is_held.false in let never : ⊥ = cc in never) c.in-None.ensures
