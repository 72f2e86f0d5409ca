use Rattle.std.proofs.Common.{ℕ, List, arith, below_more, slice_index, subst}
use Rattle.hq_job.specs.Plan.{plan}
use Rattle.hq_graph.specs.Known.{HasNoSlot}
use Rattle.hq_graph.proofs.Reasons.{not_so}
use Rattle.hq_graph.proofs.turns.first_barred.Goals as goal

pub loop-turn-preserved : goal.loop-turn-preserved
loop-turn-preserved c =
    let job = plan c.args.job.now in
    let set = c.args.set.now in
    let turn = c.loop-turn.turn in
    below_more (λ k. ¬ HasNoSlot job set (slice_index c.args.job.now.submissions k)) turn c.loop-turn.invariant
    (subst (λ (xs : List ℕ). ¬ HasNoSlot job set (slice_index xs turn)) c.submissions-submissions.ensures
    (not_so (HasNoSlot job set (slice_index c.submissions-submissions.result.now turn)) c.has_no_slot.result c.has_no_slot.ensures c.if-has_no_slot.false))

pub returns-clause-first : goal.returns-clause-first
returns-clause-first c = λ k low. c.loop-turn.invariant k (omega (arith, low, c.loop-turn-test.false, c.loop-turn.auto.turn-end))
