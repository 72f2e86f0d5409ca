use Rattle.std.proofs.Common.{ap, length, arith, slice_index, sym, ◌∙◌}
use Rattle.hq_waits.proofs.Packets.{packets_count}
use Rattle.hq_schedule.proofs.Submitting.{first_place, never_absent}
use Rattle.hq_schedule.proofs.slots.turn.Goals as goal

pub returns-then-submitted-number-clause-turn : goal.returns-then-submitted-number-clause-turn
returns-then-submitted-number-clause-turn c = first_place c.args.job.now.submissions c.loop-turn.turn c.args.number (omega (arith, ap length c.submissions-submitted-items.ensures))
    (ap (λ xs. slice_index xs c.loop-turn.turn) (sym c.submissions-submitted-items.ensures) ∙ c.if-submitted-number.true) c.loop-turn.invariant

pub returns-clause-turn : goal.returns-clause-turn
returns-clause-turn c = absurd (never_absent c.args.job.now.submissions c.loop-turn.turn c.args.number (omega (arith, ap length c.submissions-submitted-items.ensures))
    (c.valid.ensures.valid.submissions.all c.args.number (omega (arith, c.requires, packets_count c.args.job.now))) c.loop-turn.invariant)

pub returns-clause-below : goal.returns-clause-below
returns-clause-below c = absurd (never_absent c.args.job.now.submissions c.loop-turn.turn c.args.number (omega (arith, ap length c.submissions-submitted-items.ensures))
    (c.valid.ensures.valid.submissions.all c.args.number (omega (arith, c.requires, packets_count c.args.job.now))) c.loop-turn.invariant)
