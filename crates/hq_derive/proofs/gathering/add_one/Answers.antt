use Rattle.std.proofs.Common.{subst}
use Rattle.hq_derive.specs.Rests.{FollowsAlone}
use Rattle.hq_derive.proofs.gathering.add_one.Goals as goal

pub add_alone-requires-clause-rule : goal.add_alone-requires-clause-rule
add_alone-requires-clause-rule c = subst (λ v. FollowsAlone v c.args.p c.args.r c.in-Some.rule) c.job.ensures c.in-Some.ensures
