use Rattle.std.proofs.Common.{◌+◌, ◌-◌, ◌/◌, arith}
use Rattle.hq_job.specs.Plan.{plan}
use Rattle.hq_model.specs.Job.{IsPacket}
use Rattle.hq_waits.proofs.Packets.{packets_count}
use Rattle.hq_audit.specs.Refused.{ShownOneWay}
use Rattle.hq_explain.proofs.Noting.{none_in, noted_none, noted_one, noted_both_on}
use Rattle.hq_explain.proofs.Trying.{not_when}
use Rattle.hq_explain.proofs.bits.+note_bits.Goals as goal
use Rattle.hq_explain.proofs.bits.+note_bits.Goals.{then-lo-hi-via-then-lo-hi, then-lo-hi-via-else-lo-hi+in_ok-bits_order+then-not-branch}

pub returns-then-lo-hi-clause-noted : goal.returns-then-lo-hi-clause-noted
returns-then-lo-hi-clause-noted t c =
    let job = plan c.args.job.now in
    noted_none job c.args.a c.args.b c.args.lo c.args.hi c.args.set.now
    (elim c.then-lo-hi.branch [
      | then-lo-hi-via-then-lo-hi w ↦ λ p o. omega (arith, o.above, o.below, w.if-lo-hi.true)
      | then-lo-hi-via-else-lo-hi+in_ok-bits_order+then-not-branch w ↦
          let o = w.in_ok-bits_order.ensures.ordered in
          none_in job o.0 c.args.a c.args.b c.args.lo c.args.hi o.1 (not_when w.in_ok-bits_order.field-0 (ShownOneWay o.0 c.args.a c.args.b) o.2 w.if-not-branch.true)
    ])

pub note-requires-clause-room : goal.note-requires-clause-room
note-requires-clause-room t c = omega (arith, c.requires.room, c.requires.few, c.valid.ensures.limits.packets, c.if-lo-hi.false)

pub returns-then-hi-lo-eq1-clause-noted : goal.returns-then-hi-lo-eq1-clause-noted
returns-then-hi-lo-eq1-clause-noted t c =
    let job = plan c.args.job.now in
    let o = c.in_ok-bits_order.ensures.ordered in
    let is : IsPacket job c.args.lo = omega (arith, packets_count c.args.job.now, c.requires.few, c.if-lo-hi.false) in
    noted_one job o.0 c.args.a c.args.b c.args.lo c.args.hi c.args.set.now c.note.new.set (omega (arith, c.if-lo-hi.false, c.if-hi-lo-eq1.true)) is o.1 (o.2.0 c.if-not-branch.false) c.note.ensures

pub returns-clause-noted : goal.returns-clause-noted
returns-clause-noted t c =
    let lo = c.args.lo in
    let hi = c.args.hi in
    noted_both_on c.note_bits-2.result (plan c.args.job.now) c.args.a c.args.b lo (lo + (hi - lo) / 2) hi c.args.set.now c.note_bits.new.set c.note_bits-2.new.set (omega arith)
    (omega (arith, c.if-lo-hi.false)) c.in_ok-note_bits.ensures.noted c.note_bits-2.ensures.noted
