use Rattle.hq_derive.proofs.Adding.{goes_same, goes_more}
use Rattle.hq_derive.proofs.gathering.add_round.Goals as goal

pub loop-p-init : goal.loop-p-init
loop-p-init c = goes_same c.args.before.now c.args.lines.now c.requires

pub loop-p-preserved : goal.loop-p-preserved
loop-p-preserved c = goes_more c.args.before.now c.args.lines.now c.loop-p.lines c.add_later_row.new.lines c.loop-p.invariant c.in_ok-add_later_row.ensures
