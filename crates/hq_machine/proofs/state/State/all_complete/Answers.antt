use Rattle.std.proofs.Common.{◌≡◌, inr, arith}
use Rattle.hq_model.specs.Machine as machine
use Rattle.hq_model.specs.View.{phases_of}
use Rattle.hq_machine.proofs.AllOf.{all_more, all_done}
use Rattle.hq_machine.proofs.state.State.all_complete.Goals as goal

pub loop-packet-preserved : goal.loop-packet-preserved
loop-packet-preserved c = (
  λ first. all_more (λ e. phases_of first c.args.self.now.phases e ≡ machine.Phase.Complete) c.args.numbers.start c.loop-packet.packet c.loop-packet.all c.is_in-all.result (c.loop-packet.invariant.0 first) (c.is_in-all.ensures first) (omega arith),
  inr (omega arith),
)

pub returns : goal.returns
returns c =
    λ first. all_done (λ e. phases_of first c.args.self.now.phases e ≡ machine.Phase.Complete) c.args.numbers.start c.args.numbers.end c.loop-packet.packet c.loop-packet.all (c.loop-packet.invariant.0 first) (omega arith) c.loop-packet.invariant.1
