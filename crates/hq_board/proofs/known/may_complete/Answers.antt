use Rattle.hq_job.specs.Plan.{plan}
use Rattle.hq_board.proofs.Knowing.{own_place}
use Rattle.hq_board.proofs.known.may_complete.Goals as goal

pub returns-in_default : goal.returns-in_default
returns-in_default c q may = c.in_default.ensures (own_place (plan c.args.job.now) c.args.known.now c.args.packet c.requires.tied may.0 q)
