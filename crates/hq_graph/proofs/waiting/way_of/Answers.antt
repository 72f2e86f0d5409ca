use Rattle.hq_job.specs.Plan.{plan}
use Rattle.hq_model.specs.Job.{Frees}
use Rattle.hq_graph.specs.Order.{WaitsBy}
use Rattle.hq_graph.specs.declared.wait.Wait.TheVariants as wait
use Rattle.hq_graph.proofs.Reasons.{no_way, not_so}
use Rattle.hq_graph.proofs.waiting.way_of.Goals as goal

pub returns-else-is_turn : goal.returns-else-is_turn
returns-else-is_turn c =
    let job = plan c.args.job.now in
    no_way job c.args.p c.args.r (not_so (WaitsBy job c.args.p c.args.r wait.Ahead) c.is_right_ahead.result c.is_right_ahead.ensures c.if-is_right_ahead.false) (not_so (Frees job c.args.p c.args.r) c.has_slot.result c.has_slot.ensures c.if-has_slot.false) c.in_default.ensures
    (not_so (WaitsBy job c.args.p c.args.r wait.Turn) c.is_turn.result c.is_turn.ensures c.if-is_turn.false)
