use Rattle.std.proofs.Common.{◌≡◌, inr, arith, true, sym, ◌∙◌}
use Rattle.hq_model.specs.Machine.{is_launched}
use Rattle.hq_model.specs.View.{phases_of}
use Rattle.hq_machine.proofs.AllOf.{all_more, all_done}
use Rattle.hq_machine.proofs.state.State.all_launched.Goals as goal

pub loop-packet-preserved : goal.loop-packet-preserved
loop-packet-preserved c = (
  λ first. all_more (λ e. is_launched (phases_of first c.args.self.now.phases e) ≡ true) c.args.numbers.start c.loop-packet.packet c.loop-packet.all c.is_launched-all.result (c.loop-packet.invariant.0 first) (let same = c.is_launched-all.ensures first in (λ t. sym same ∙ t, λ h. same ∙ h)) (omega arith),
  inr (omega arith),
)

pub returns : goal.returns
returns c =
    λ first. all_done (λ e. is_launched (phases_of first c.args.self.now.phases e) ≡ true) c.args.numbers.start c.args.numbers.end c.loop-packet.packet c.loop-packet.all (c.loop-packet.invariant.0 first) (omega arith) c.loop-packet.invariant.1
