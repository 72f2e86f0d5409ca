use Rattle.std.proofs.Common.{sym, ◌∙◌, arith}
use Rattle.hq_change.proofs.Trials.{pair_refuses}
use Rattle.hq_change.proofs.trial.is_shown.Goals as goal

pub returns-then-a-b : goal.returns-then-a-b
returns-then-a-b c = λ f. pair_refuses c.args.before.now c.args.a c.args.b c.direct.result c.direct.ensures c.if-a-b.true c.requires.b_is (sym c.is_ok.ensures.value ∙ f)

pub returns-else-a-b-2 : goal.returns-else-a-b-2
returns-else-a-b-2 c = λ f. pair_refuses c.args.before.now c.args.b c.args.a c.direct-else-a-b-2.result c.direct-else-a-b-2.ensures (omega (arith, c.if-a-b.false, c.if-a-b-2.false)) c.requires.a_is (sym c.is_ok-else-a-b-2.ensures.value ∙ f)
