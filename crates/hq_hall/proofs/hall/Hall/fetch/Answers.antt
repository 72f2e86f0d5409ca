use Rattle.std.proofs.Common.{subst}
use Rattle.hq_certcheck.specs.View.{AcceptedJob}
use Rattle.hq_job.specs.Plan.{plan}
use Rattle.hq_model.specs.Fence.{Ordered}
use Rattle.hq_model.specs.Theorems.{Valid}
use Rattle.hq_hall.proofs.Packets.{fetched_pieces, fetched_given}
use Rattle.hq_hall.proofs.hall.Hall.fetch.Goals as goal

pub returns-clause-pieces : goal.returns-clause-pieces
returns-clause-pieces c = fetched_pieces c.args.self.now c.take_out.new.self c.args.packet c.in_ok-pieces.pieces.items c.in_default.ensures.ok c.in_ok-pieces.ensures.ok

pub returns-clause-given : goal.returns-clause-given
returns-clause-given c =
    fetched_given c.args.self.now c.take_out.new.self c.args.packet c.in_default.ensures.ok c.run_so_far.ensures.run
    (subst (λ (j : AcceptedJob). Valid (plan j.job)) c.accepted.ensures c.ordered.ensures.valid)
    (subst (λ (j : AcceptedJob). Ordered (plan j.job)) c.accepted.ensures c.ordered.ensures.ordered)
