use Rattle.std.proofs.Common.{ℕ, inl, inr, arith}
use Rattle.hq_job.specs.Plan.{plan}
use Rattle.std.proofs.lemmas.Bool.{cases_lt}
use Rattle.hq_machine.proofs.WorkLeft.{each_more, idle_past}
use Rattle.hq_machine.specs.WorkLeft.{PacketIdle}
use Rattle.hq_machine.proofs.state.State.packets_left.Goals as goal

pub loop-packet-preserved : goal.loop-packet-preserved
loop-packet-preserved c = each_more (λ (k : ℕ). PacketIdle (plan c.args.job.now) c.args.self.now k) c.loop-packet.packet c.loop-packet.invariant c.in_default.ensures

pub returns : goal.returns
returns c = λ p.
    let end = c.loop-packet-test.false in
    let count = c.packet_total-packet-end.ensures in
    elim (cases_lt p c.packet_total-packet-end.result) [
      | inl low ↦ c.loop-packet.invariant p (omega arith)
      | inr high ↦ idle_past (plan c.args.job.now) c.args.self.now p (λ there. omega arith)
    ]
