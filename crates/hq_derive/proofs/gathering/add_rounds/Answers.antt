use Rattle.hq_derive.proofs.Adding.{goes_same, goes_more}
use Rattle.hq_derive.proofs.gathering.add_rounds.Goals as goal

pub loop-round-init : goal.loop-round-init
loop-round-init c = goes_same c.args.before.now c.args.lines.now c.requires

pub loop-round-preserved : goal.loop-round-preserved
loop-round-preserved c = goes_more c.args.before.now c.args.lines.now c.loop-round.lines c.add_round.new.lines c.loop-round.invariant c.in_ok-add_round.ensures
