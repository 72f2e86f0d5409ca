use Rattle.hq_derive.proofs.Adding.{goes_same, goes_more}
use Rattle.hq_derive.proofs.gathering.add_later_word.Goals as goal

pub each-init : goal.each-init
each-init c = goes_same c.args.before.now c.args.lines.now c.requires.kept

pub each-preserved : goal.each-preserved
each-preserved c = goes_more c.args.before.now c.args.lines.now c.each.lines c.add_later.new.lines c.each.invariant c.in_ok-add_later.ensures
