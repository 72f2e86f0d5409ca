use Rattle.hq_change.proofs.Texts.{heads_make}
use Rattle.hq_change.proofs.changing.fix.Goals as goal

pub returns-in-Ok-clause-heads : goal.returns-in-Ok-clause-heads
returns-in-Ok-clause-heads g c = heads_make c.args.job c.give_lacking.new.job c.in-Ok.ensures.same
