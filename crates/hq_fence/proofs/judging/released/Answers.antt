use Rattle.hq_fence.specs.declared.search.Goal.TheVariants as asked
use Rattle.hq_fence.proofs.Telling.{unanswered, not_released}
use Rattle.hq_fence.proofs.judging.released.Goals as goal

pub returns-in-None : goal.returns-in-None
returns-in-None c =
    not_released c.args.before.now c.args.p c.args.r
    (unanswered c.new.result c.args.before.now c.args.p c.args.r asked.Second c.new.ensures.job c.new.ensures.p c.new.ensures.r c.new.ensures.goal c.in-None.ensures)
