use Rattle.std.proofs.Common.{ℕ, ◌<◌, slice_index_or}
use Rattle.hq_witness.specs.declared.trace.Sighting.{Sighting}
use Rattle.hq_witness.specs.Differences.{AreOther}
use Rattle.hq_witness.proofs.difference.other_sighting.Given as goal

abbrev pub invariant-loop-other : goal.invariant-loop-other
invariant-loop-other l = (i : ℕ) (d : Sighting) → i < l.other-index → ¬ AreOther l.sighting (slice_index_or l.reads i d)
