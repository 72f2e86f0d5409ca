use Rattle.std.proofs.Common.{ℕ, ◌<◌, slice_index_or}
use Rattle.hq_footprint.specs.declared.footprint.Range.{Range}
use Rattle.hq_parts.specs.Parts.{HasRange}
use Rattle.hq_parts.proofs.parts.parts_over.Given as goal

abbrev pub invariant-loop-range : goal.invariant-loop-range
invariant-loop-range l = (k : ℕ) (d : Range) → k < l.range-index → HasRange l.size l.parts (slice_index_or l.ranges k d)
