use Rattle.std.proofs.Common.{◌≡◌, ℕ, ◌<◌, [], false}
use Rattle.hq_job.specs.Plan.{plan}
use Rattle.hq_bits.specs.Bits.{has}
use Rattle.hq_model.specs.Job.{packet}
use Rattle.hq_certcheck.proofs.possible.readers_and_writers.Given as goal

abbrev pub invariant-loop-p : goal.invariant-loop-p
invariant-loop-p l = record {
  readers : (s : ℕ) → s < l.p → has l.readers s ≡ false → (packet (plan l.job) s).reads ≡ [];
  writers : (s : ℕ) → s < l.p → has l.writers s ≡ false → (packet (plan l.job) s).writes ≡ [];
}
