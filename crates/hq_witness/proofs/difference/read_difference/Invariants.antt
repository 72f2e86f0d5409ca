use Rattle.std.proofs.Common.{ℕ, ◌<◌, slice_index_or}
use Rattle.hq_witness.specs.declared.trace.Sighting.{Sighting}
use Rattle.hq_witness.specs.Differences.{AreOther, Has}
use Rattle.hq_witness.proofs.difference.read_difference.Given as goal

abbrev pub invariant-loop-sighting : goal.invariant-loop-sighting
invariant-loop-sighting l =
    (i : ℕ) (d other : Sighting) → i < l.sighting-index → Has l.bad.reads.items other → ¬ AreOther (slice_index_or l.good.reads.items i d) other
