use Rattle.std.proofs.Common.{◌≡◌, ℕ, ◌+◌, ◌*◌, ◌<◌, sym, ◌∙◌, ap, subst, arith, length, slice_index_or}
use Rattle.hq_job.specs.Plan.{plan}
use Rattle.hq_model.specs.Job.{packet, Decrements}
use Rattle.hq_waits.proofs.Completions.{taken_in}
use Rattle.hq_rows.proofs.Filling.{gathered_in, gathered_out}
use Rattle.hq_waits.proofs.Packets.{packet_at, packets_count}
use Rattle.hq_waits.proofs.signals.mark_completions.Goals as goal
use Rattle.hq_waits.proofs.signals.mark_completions.Goals.{in-Some, in_default}

pub loop-number-preserved : goal.loop-number-preserved
loop-number-preserved c =
    let P : ℕ → ℕ → Type 0 = λ p e. (s : ℕ) × (e ≡ s * (c.args.words * 64) + p) × Decrements (plan c.args.job.now) p s in
    let there : c.packet-item.result ≡ slice_index_or c.args.job.now.packets c.loop-number.number c.packet-item.result = subst (λ xs. c.packet-item.result ≡ slice_index_or xs c.loop-number.number c.packet-item.result) c.packets-packet-items.ensures c.packet-item.is in
    let low : c.loop-number.number < length c.args.job.now.packets = omega (arith, ap length c.packets-packet-items.ensures) in
    let done : (packet (plan c.args.job.now) c.loop-number.number).done ≡ c.packet-item.result.done = ap (λ e. e.done) (packet_at c.args.job.now c.loop-number.number c.packet-item.result low there) in
    elim c.match-packet.branch [
      | in-Some w ↦ rw w.rows-is (gathered_in P c.args.rows.now c.loop-number.number c.loop-number.rows w.insert.new.row c.loop-number.invariant
          (taken_in (plan c.args.job.now) c.args.words c.loop-number.number w.in-Some.signal c.loop-number.rows w.insert.new.row
          (record { is_packet = omega (arith, low, packets_count c.args.job.now); signal = done ∙ w.in-Some.is }) w.insert.ensures) w.insert.auto.row)
      | in_default w ↦ rw w.rows-is (gathered_out P c.args.rows.now c.loop-number.number c.loop-number.rows c.loop-number.invariant
          (λ e h. w.in_default.not-Some h.0 (sym done ∙ h.2.signal)))
    ]
