use Rattle.std.proofs.Common.{◌≡◌, ℕ, ◌+◌, ◌<◌, List, [], false, subst, sym}
use Rattle.hq_bits.specs.Bits.{has}
use Rattle.hq_job.specs.Plan.{plan}
use Rattle.hq_model.specs.Job.{packet}
use Rattle.hq_certcheck.proofs.Conflicting.{none_read, none_written, one_more_in, one_more_out}
use Rattle.hq_certcheck.proofs.possible.readers_and_writers.Goals as goal
use Rattle.hq_certcheck.proofs.possible.readers_and_writers.Goals.{then-not-reads_nothing, else-not-reads_nothing, then-not-writes_nothing, else-not-writes_nothing}

pub loop-p-preserved : goal.loop-p-preserved
loop-p-preserved c =
    let job = plan c.args.job.now in
    let p = c.loop-p.p in
    let placed = c.packet.result.now in
    let inv = c.loop-p.invariant in
    let NoReads = λ (s : ℕ). (packet job s).reads ≡ [] in
    let NoWrites = λ (s : ℕ). (packet job s).writes ≡ [] in
    let Known = λ (P : ℕ → Type 0) (row : List ℕ). (s : ℕ) → s < p + 1 → has row s ≡ false → P s in
    record {
      readers = elim c.if-not-reads_nothing.branch [
        | then-not-reads_nothing w ↦ subst (Known NoReads) (sym w.readers-is) (one_more_in NoReads p c.loop-p.readers w.insert.new.row w.insert.ensures inv.readers)
        | else-not-reads_nothing w ↦ subst (Known NoReads) (sym w.readers-is) (one_more_out NoReads p c.loop-p.readers (none_read job p placed c.packet.ensures (c.reads_nothing.ensures.0 w.if-not-reads_nothing.false)) inv.readers)
      ];
      writers = elim c.if-not-writes_nothing.branch [
        | then-not-writes_nothing w ↦
            subst (Known NoWrites) (sym w.writers-is) (one_more_in NoWrites p c.loop-p.writers w.insert-then-not-writes_nothing.new.row w.insert-then-not-writes_nothing.ensures inv.writers)
        | else-not-writes_nothing w ↦ subst (Known NoWrites) (sym w.writers-is) (one_more_out NoWrites p c.loop-p.writers (none_written job p placed c.packet.ensures (c.writes_nothing.ensures.0 w.if-not-writes_nothing.false)) inv.writers)
      ];
    }
